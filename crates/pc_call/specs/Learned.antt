-- What a session knows after each of its events, in short.
use Rattle.std.specs.Prelude.{ℕ, max, None, Some, [], ◌∷◌, ◌++◌, map}
use Rattle.pc_proto.specs.declared.answer.Answer.{Answer}
use Rattle.pc_proto.specs.declared.call.Call.{Call}
use Rattle.pc_proto.specs.declared.request.Request.{Request}
use Rattle.pc_proto.specs.Stamps.{answer_stamps, greatest_of, reply_stamps, request_stamps}
use Rattle.pc_world.specs.Known.{Known, txns_told}
use Rattle.pc_world.specs.Known.Clock.{high_told}
use Rattle.pc_world.specs.Known.Statements.{begun_told, is_open_told}
use Rattle.pc_world.specs.Known.Traffic.{Heard}
use Rattle.pc_world.specs.Known.Transactions.{txn_heard, txn_sent}

-- What a session knows once it sent this.
abbrev pub known_sent : ℕ → ℕ → Request → Known → Known
known_sent number range request k = record k {
  sent = k.sent ++ record { number = number; range = range; request = request } ∷ [];
  sent_now = k.sent_now ++ record { number = number; range = range; request = request } ∷ [];
  top = max k.top (max (greatest_of (request_stamps request)) 0);
  txns = map (txn_sent request) k.txns;
}

-- What it knows once it heard this.
abbrev pub known_heard : Heard → Known → Known
known_heard h k = record k {
  heard = k.heard ++ h ∷ [];
  heard_now = k.heard_now ++ h ∷ [];
  top = max k.top (max 0 (greatest_of (reply_stamps h.reply)));
  high = max k.high (greatest_of (reply_stamps h.reply));
  txns = map (txn_heard k.sent (Some h)) k.txns;
}

-- What it knows once it was asked this.
abbrev pub known_asked : Call → ℕ → Known → Known
known_asked call reading k = record k {
  statement = Some (record { call = call; reading = reading });
  sent_now = [];
  heard_now = [];
  met_now = [];
  top = max k.top 0;
}

-- What it knows once it was told this.
abbrev pub known_told : Answer → Known → Known
known_told answer k = record k {
  statement = None;
  top = max k.top (max (greatest_of (answer_stamps answer)) 0);
  high = high_told answer k.high;
  begun = begun_told answer k.begun;
  is_open = is_open_told answer k.is_open;
  txns = txns_told answer k;
}
