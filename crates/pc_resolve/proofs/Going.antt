-- What a machine stands by it stands by later.
use Rattle.std.proofs.Common.{◌≡◌, ℕ, false, List, take, sym, subst}
use Rattle.std.proofs.lemmas.List.Elements.{All-append, All-nil, All-weaker}
use Rattle.pc_proto.specs.declared.reply.Reply.TheVariants as replies
use Rattle.pc_resolve.specs.ResolveKnows.{AreSettled, IsLaterWithoutPuts, IsRemoved, ResolveKnows, sends_put_by}
use Rattle.pc_resolve.specs.Resolving.{Resolving, lock_resolve, remove_of}
use Rattle.pc_world.proofs.Exchange.{heard_later, later-itself, later-later}
use Rattle.pc_world.specs.Exchange.{HeardSince, IsLater}
use Rattle.pc_world.specs.Known.{Known}
use Rattle.pc_world.specs.Send.Settling.{MayFinish}

pub settled_later : (start k later : Known) (m : Resolving) (locks : List (List ℕ)) → IsLater k later → AreSettled start k m locks → AreSettled start later m locks
settled_later start k later m locks is settled =
    All-weaker (λ key. HeardSince start k (lock_resolve m key) replies.Resolved) (λ key. HeardSince start later (lock_resolve m key) replies.Resolved)
    (λ key heard. heard_later start k later (lock_resolve m key) replies.Resolved heard is) locks settled

pub removed_later : (start k later : Known) (m : Resolving) → IsLater k later → IsRemoved start k m → IsRemoved start later m
removed_later start k later m is removed = record {
  settled = settled_later start k later m m.locks is removed.settled;
  reply = removed.reply;
  heard = heard_later start k later (remove_of m) removed.reply removed.heard is;
}

pub without_puts_later : (start k later : Known) (m : Resolving) → IsLaterWithoutPuts m.id start k → IsLaterWithoutPuts m.id k later → IsLaterWithoutPuts m.id start later
without_puts_later start k later m one two = record {
  later = later-later start k later one.later two.later;
  unwritten = All-append (λ p. sends_put_by m.id p.entry.event ≡ false) one.later.entries two.later.entries one.unwritten two.unwritten;
}

-- while the actor only sends and hears
pub goes_on : (start k later : Known) (m : Resolving) → ResolveKnows start k m → IsLaterWithoutPuts m.id k later → ResolveKnows start later m
goes_on start k later m knows is = record {
  may = knows.may;
  since = without_puts_later start k later m knows.since is;
  settled = settled_later start k later m (take m.settled m.locks) is.later knows.settled;
  removed = λ over. removed_later start k later m is.later (knows.removed over);
}

-- and from the first
pub new_knows : (k : Known) (m : Resolving) → m.settled ≡ 0 → m.removed ≡ false → MayFinish k m.id m.anchor m.fate m.locks → ResolveKnows k k m
new_knows k m settled removed may = record {
  may = may;
  since = record { later = later-itself k; unwritten = All-nil (λ p. sends_put_by m.id p.entry.event ≡ false) };
  settled =
      subst (λ n. AreSettled k k m (take n m.locks)) (sym settled)
      (All-nil (λ key. HeardSince k k (lock_resolve m key) replies.Resolved));
  removed = λ over. absurd cc;
}
