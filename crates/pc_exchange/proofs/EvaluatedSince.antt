-- A reply that was heard to a message which was sent since some time was evaluated since: behind all that its session had entered by then.
use Rattle.std.proofs.Common.{◌≡◌, ◌+◌, ◌≤◌, List, [], ◌∷◌, ◌++◌, length, inl, inr, All, Contains, sym, ◌∙◌, subst, arith}
use Rattle.std.proofs.lemmas.List.{append-nil}
use Rattle.std.proofs.lemmas.List.Elements.{All-contains, Contains-append_left}
use Rattle.pc_base.specs.declared.entry.Entry.{Entry}
use Rattle.pc_desk.specs.OwnLog.{IsOwnLog, LogMeaning}
use Rattle.pc_exchange.proofs.HeardKinds.{history_of, is_run, known_there}
use Rattle.pc_history.specs.declared.pair.Pair.{Pair}
use Rattle.pc_history.specs.Own.{own}
use Rattle.pc_implicit.proofs.Fronts.{either_front}
use Rattle.pc_implicit.proofs.HeardAt.{HeardAt, heard_at}
use Rattle.pc_implicit.proofs.OwnSplit.{own_split}
use Rattle.pc_implicit.proofs.Refusals.{sent_known}
use Rattle.pc_proto.specs.declared.event.Event.{Event}
use Rattle.pc_world.proofs.Prefixes.{run_front}
use Rattle.pc_world.specs.After.{known_at}
use Rattle.pc_world.specs.Known.{Known, known_of}
use Rattle.pc_world.specs.Known.Traffic.{Heard, Sent}
use Rattle.pc_world.specs.Run.{IsRun, protocol}

-- The reply's evaluation in the history in which the list stands, and a beginning of what came before it in which the actor had just these entries.
pub record WasEvaluatedSince {C : Type 0} (l : LogMeaning C) (log : IsOwnLog l) (before : List (Pair Event)) (h : Heard) : Type 0 where
  pub at : HeardAt l.head (history_of l log) l.part.id h
  pub front : List (Entry Event)
  pub mine : own (protocol l.head) l.part.id front ≡ before
  pub since : List (Entry Event)
  pub whole : at.before ≡ front ++ since

-- The list goes on so, each message of its beginning has a number up to how many there are, and the reply is to one of a later number.
pub record IsHeardSince {C : Type 0} (l : LogMeaning C) (before : List (Pair Event)) (h : Heard) : Type 0 where
  pub part : List (Pair Event)
  pub whole : l.part.own ≡ before ++ part
  pub numbered : All (λ m. m.number ≤ length (known_of before).sent) (known_of before).sent
  pub there : Contains (known_of l.part.own).heard h
  pub fresh : length (known_of before).sent + 1 ≤ h.number

module _ {C : Type 0} (l : LogMeaning C) (log : IsOwnLog l) (before : List (Pair Event)) (h : Heard) (since : IsHeardSince l before h) where
  abbrev whole_history : List (Entry Event)
  whole_history = history_of l log

  it_at : HeardAt l.head (history_of l log) l.part.id h
  it_at = heard_at l.head (history_of l log) (is_run l log) l.part.id h (subst (λ (k : Known). Contains k.heard h) (sym (known_there l log)) since.there)

  -- its message was not sent where the actor had just these entries
  unsent_yet : (front : List (Entry Event)) → IsRun l.head front → own (protocol l.head) l.part.id front ≡ before → Contains front it_at.ev.send → ⊥
  unsent_yet front run mine there =
      let m : Sent = record { number = h.number; range = it_at.ev.range; request = it_at.ev.request } in
      let known : Contains (known_at l.head it_at.ev.send.actor front).sent m = sent_known l.head front run it_at.ev.send there h.number it_at.ev.range it_at.ev.request it_at.ev.sends in
      let its : Contains (known_at l.head l.part.id front).sent m = subst (λ a. Contains (known_at l.head a front).sent m) it_at.ev.whose known in
      let among : Contains (known_of before).sent m = subst (λ (own : List (Pair Event)). Contains (known_of own).sent m) mine its in
      let low : h.number ≤ length (known_of before).sent = All-contains (λ (m : Sent). m.number ≤ length (known_of before).sent) (known_of before).sent m since.numbered among in
      let fresh = since.fresh in
      omega (arith, low, fresh)

  in_whole : Contains (history_of l log) it_at.ev.send
  in_whole = subst (λ es. Contains es it_at.ev.send) (sym it_at.whole) (Contains-append_left it_at.before (it_at.e ∷ it_at.later) it_at.ev.send it_at.ev.listed)

  by_part : (rest : List (Pair Event)) → own (protocol l.head) l.part.id (history_of l log) ≡ before ++ rest → WasEvaluatedSince l log before h
  by_part [] is = absurd (unsent_yet (history_of l log) (is_run l log) (is ∙ append-nil before) in_whole)
  by_part (p ∷ rest) is =
      let s = own_split (protocol l.head) l.part.id (history_of l log) before p rest is in
      elim (either_front s.front (p.entry ∷ s.back) it_at.before (it_at.e ∷ it_at.later) (sym s.whole ∙ it_at.whole)) [
        | inl longer ↦ record { at = it_at; front = s.front; mine = s.mine; since = longer.rest; whole = longer.whole }
        | inr shorter ↦ absurd (
            unsent_yet s.front (run_front l.head s.front (p.entry ∷ s.back) (subst (IsRun l.head) s.whole (is_run l log))) s.mine
            (subst (λ es. Contains es it_at.ev.send) (sym shorter.whole) (Contains-append_left it_at.before shorter.rest it_at.ev.send it_at.ev.listed))
            )
      ]

  pub evaluated_since : WasEvaluatedSince l log before h
  evaluated_since = by_part since.part (log.stands.list ∙ since.whole)
