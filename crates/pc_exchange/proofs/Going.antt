-- A desk goes on by one exchange after another.
use Rattle.std.proofs.Common.{◌≡◌, ℕ, ◌+◌, max, Bool, true, false, is_some, All, List, [], ◌∷◌, ◌++◌, map, Some, refl, sym, ap, ◌∙◌, subst}
use Rattle.std.proofs.lemmas.List.{map-append}
use Rattle.std.proofs.lemmas.List.Elements.{All-append, All-nil, All-push}
use Rattle.pc_base.specs.declared.transaction.TxnId.{TxnId}
use Rattle.pc_base.specs.Transaction.{same_txn}
use Rattle.pc_desk.specs.Desk.{DeskMeaning}
use Rattle.pc_exchange.proofs.Aside.{aside_on}
use Rattle.pc_exchange.proofs.Called.{next_unsent}
use Rattle.pc_exchange.proofs.Growing.{grows_both, grows_none}
use Rattle.pc_exchange.proofs.InTurn.{passing_more}
use Rattle.pc_exchange.proofs.Knowing.{answered_then, known_then, with_exchange}
use Rattle.pc_exchange.proofs.Messages.{jobs_then, left_by_exchange}
use Rattle.pc_exchange.proofs.Told.{stays_on}
use Rattle.pc_exchange.specs.Aside.{IsAside, IsLaterAside, IsOfRoundOrJob}
use Rattle.pc_exchange.specs.Exchange.{WasExchanged, heard_pair, sent_pair}
use Rattle.pc_exchange.specs.Growing.{HasGoneBeside, HasAllBack}
use Rattle.pc_exchange.specs.Told.{StaysDecided}
use Rattle.pc_history.specs.declared.pair.Pair.{Pair}
use Rattle.pc_lists.proofs.Counts.{one_if}
use Rattle.pc_lists.proofs.Same.{same_txn-is}
use Rattle.pc_proto.specs.declared.event.Event.{Event}
use Rattle.pc_proto.specs.declared.reply.Reply.{Reply}
use Rattle.pc_proto.specs.declared.request.Request.{Request}
use Rattle.pc_proto.specs.declared.request.Request.TheVariants as requests
use Rattle.pc_proto.specs.Requests.{goal_in, is_about, is_commit, is_put_by}
use Rattle.pc_proto.specs.Stamps.{greatest_of, reply_stamps}
use Rattle.pc_resolve.specs.ResolveKnows.{WasAnsweredToIt, sends_put_by}
use Rattle.pc_resolve.specs.Resolving.{Resolving}
use Rattle.pc_turns.specs.Order.{IsInBetween}
use Rattle.pc_txn.specs.Standing.{is_query_of}
use Rattle.pc_world.specs.Exchange.{WasAnswered}
use Rattle.pc_follows.specs.FinishingJobs.{jobs_of}
use Rattle.pc_follows.specs.Rounds.{rounds_begun}
use Rattle.pc_world.specs.Known.{Known, known_of, next_number}
use Rattle.pc_world.specs.Known.Traffic.{Heard, Sent}
use Rattle.pc_world.specs.Known.Transactions.{Txn}
use Rattle.pc_wave.specs.Standing.{goes_beside}

-- by nothing
pub goes_none : {C : Type 0} (d : DeskMeaning C) → HasAllBack d → HasGoneBeside d d []
goes_none d back = record { grown = grows_none d.log; within = All-nil IsInBetween; back = back; limit = refl; later = refl }

-- by these entries and then by those
pub goes_both : {C : Type 0} (a b d : DeskMeaning C) (p q : List (Pair Event)) → HasGoneBeside a b p → HasGoneBeside b d q → HasGoneBeside a d (p ++ q)
goes_both a b d p q x y = record {
  grown = grows_both a.log b.log d.log p q x.grown y.grown;
  within = subst (All IsInBetween) (sym (map-append (λ (r : Pair Event). r.entry.event) p q)) (All-append IsInBetween (map (λ r. r.entry.event) p) (map (λ r. r.entry.event) q) x.within y.within);
  back = y.back;
  limit = y.limit ∙ x.limit;
  later = y.later ∙ x.later;
}

-- two names that differ
pub not_same : (one other : TxnId) → (one ≡ other → ⊥) → same_txn one other ≡ false
not_same one other differ = by (same_txn one other) refl
  where
    by : (b : Bool) → same_txn one other ≡ b → same_txn one other ≡ false
    by true is = absurd (differ (same_txn-is one other is))
    by false is = is

puts-none : (id : TxnId) (request : Request) → goes_beside request ≡ true → is_put_by id request ≡ false
puts-none id (requests.Push holder by level now goal) is = refl
puts-none id (requests.Query other epoch seq ts key by) is = refl
puts-none id (requests.Recover other epoch ts anchor finding) is = refl
puts-none id (requests.Resolve other key fate) is = refl
puts-none id (requests.Remove other anchor) is = refl
puts-none id request is = absurd cc

module _ {C : Type 0} (d new : DeskMeaning C) (request : Request) (reply : Reply) where
  -- the entries of the exchange
  abbrev pub part_by : WasExchanged d new request reply → List (Pair Event)
  part_by x =
      let next = next_number (known_of d.log.part.own) in
      sent_pair d.log.part.id x.sent_at next x.range request ∷ heard_pair d.log.part.id x.heard_at next x.evaluated_by x.evaluated_at reply ∷ []

  -- what was heard in it
  abbrev pub reply_by : WasExchanged d new request reply → Heard
  reply_by x = record { number = next_number (known_of d.log.part.own); request = request; reply = reply; step = x.evaluated_at }

  -- the jobs that wait then
  pub jobs_by : WasExchanged d new request reply → jobs_of new.log.part.own ≡ left_by_exchange (known_of d.log.part.own).statement (jobs_of d.log.part.own)
  jobs_by x =
      let next = next_number (known_of d.log.part.own) in
      ap jobs_of x.goes.grown.own ∙ jobs_then d.log.part.own d.log.part.id x.sent_at x.heard_at next x.range x.evaluated_by x.evaluated_at request reply

  module _ (back : HasAllBack d) (x : WasExchanged d new request reply) where
    -- The number of the message.
    abbrev number_of : ℕ
    number_of = next_number (known_of d.log.part.own)

    -- what the actor knows then
    pub known_by_it : known_of new.log.part.own ≡ with_exchange number_of x.range x.evaluated_at request reply (known_of d.log.part.own)
    known_by_it =
        ap known_of x.goes.grown.own
        ∙ known_then d.log.part.own d.log.part.id x.sent_at x.heard_at number_of x.range x.evaluated_by x.evaluated_at request reply (next_unsent d back)

    -- what was heard in the open call
    pub heard_now_by : (known_of new.log.part.own).heard_now ≡ (known_of d.log.part.own).heard_now ++ reply_by x ∷ []
    heard_now_by = ap (λ (k : Known). k.heard_now) known_by_it

    -- and how many rounds were begun in it
    pub rounds_by : rounds_begun (known_of new.log.part.own) ≡ rounds_begun (known_of d.log.part.own) + one_if (is_some (goal_in request))
    rounds_by =
        ap rounds_begun known_by_it
        ∙ passing_more (λ (m : Sent). is_some (goal_in m.request)) (known_of d.log.part.own).sent_now (record { number = number_of; range = x.range; request = request })

    -- the reply was heard to it
    pub answered_by : WasAnswered (known_of d.log.part.own) (known_of new.log.part.own) request reply
    answered_by =
        subst (λ own. WasAnswered (known_of d.log.part.own) (known_of own) request reply) (sym x.goes.grown.own)
        (answered_then d.log.part.own d.log.part.id x.sent_at x.heard_at number_of x.range x.evaluated_by x.evaluated_at request reply (next_unsent d back) refl)

    -- and meanwhile nothing was put
    pub answered_to_by : goes_beside request ≡ true → (m : Resolving) → WasAnsweredToIt (known_of d.log.part.own) (known_of new.log.part.own) request reply m
    answered_to_by is m =
        let sends = sent_pair d.log.part.id x.sent_at number_of x.range request in
        let U : Pair Event → Type 0 = λ p. sends_put_by m.id p.entry.event ≡ false in
        subst (λ own. WasAnsweredToIt (known_of d.log.part.own) (known_of own) request reply m) (sym x.goes.grown.own) (record {
          answered = answered_then d.log.part.own d.log.part.id x.sent_at x.heard_at number_of x.range x.evaluated_by x.evaluated_at request reply (next_unsent d back) refl;
          unwritten = All-push U [] sends (All-nil U) (puts-none m.id request is);
        })

    -- a transaction that was told committed stays so over it
    pub told_by : IsOfRoundOrJob (known_of d.log.part.own) request → (t : Txn) (at : ℕ) → (is_commit request ≡ true → is_about t.id request ≡ false) → is_query_of t.id request ≡ false → t.committed ≡ Some at
        → StaysDecided (known_of d.log.part.own) t at → StaysDecided (known_of new.log.part.own) t at
    told_by kind t at other unqueried committed stays =
        subst (λ (k : Known). StaysDecided k t at) (sym known_by_it)
        (stays_on number_of x.range x.evaluated_at request reply (known_of d.log.part.own) kind t at other unqueried committed stays)

    -- the session goes on beside its coordinator
    pub aside_by : (session : ℕ) (start : Known) (ts : ℕ) → IsLaterAside session start (known_of d.log.part.own) ts → IsAside session start request
        → IsLaterAside session start (known_of new.log.part.own) (max ts (greatest_of (reply_stamps reply)))
    aside_by session start ts l is =
        subst (λ (k : Known). IsLaterAside session start k (max ts (greatest_of (reply_stamps reply)))) (sym known_by_it)
        (aside_on session start (known_of d.log.part.own) ts number_of x.range x.evaluated_at request reply l is refl)
