-- What comes next is allowed, and after a reply the machine stands by what its actor knows.
use Rattle.std.proofs.Common.{◌≡◌, ℕ, zero, suc, ◌+◌, ◌≤◌, true, false, Bool, ◌&&◌, ◌||◌, ◌==◌, ◌⊎◌, List, [], ◌∷◌, ◌++◌, length, take, slice_get, inl, inr, All, Any, Option, None, Some, Result, Ok, Err, IfOk, OnOk, refl, sym, ap, ◌∙◌, subst, arith}
use Rattle.std.proofs.lemmas.List.{take_more}
use Rattle.std.proofs.lemmas.List.Elements.{All-nil, All-push, All-weaker}
use Rattle.std.proofs.lemmas.Bool.{eq-eqb}
use Rattle.std.proofs.lemmas.Option.{slice_get_cases}
use Rattle.pc_base.specs.declared.actor.ActorId.{ActorId}
use Rattle.pc_base.specs.Span.{same_key}
use Rattle.pc_base.specs.declared.memory.NoMemory.{NoMemory}
use Rattle.pc_lists.proofs.Anywhere.{any_weaker}
use Rattle.pc_lists.proofs.Same.{same_key-self}
use Rattle.pc_proto.specs.declared.fate.Finding.{Finding}
use Rattle.pc_proto.specs.declared.fate.Finding.TheVariants as findings
use Rattle.pc_proto.specs.declared.reply.Reply.{Reply}
use Rattle.pc_proto.specs.declared.reply.Reply.TheVariants as replies
use Rattle.pc_proto.specs.declared.request.Request.{Request}
use Rattle.pc_proto.specs.declared.view.View.{View}
use Rattle.pc_proto.specs.Views.{is_final_view}
use Rattle.pc_recover.proofs.Deciding.{IsOtherStatus, recovery_differs}
use Rattle.pc_recover.proofs.Going.{may_later, stands_later}
use Rattle.pc_recover.specs.declared.progress.Progress.{Progress}
use Rattle.pc_recover.specs.declared.progress.Progress.TheVariants as progress
use Rattle.pc_recover.specs.RecoverKnows.{AreFound, HasFound, IsMissing, MayRecover, RecoverKnows, RecoveringMayCome, RecoveryStands, HasDecided}
use Rattle.pc_recover.specs.Recovering.{Recovering, asked_for, over_by, progress_after, progress_after_query, progress_after_deciding, recovering_heard, query_of, recover_of, recovering_after, recovering_due, recovering_next, recovering_at}
use Rattle.pc_world.proofs.Exchange.{answered, heard_earlier, heard_ever, later-later}
use Rattle.pc_proto.specs.declared.machine.MachineNext.{MachineNext}
use Rattle.pc_proto.specs.declared.machine.MachineNext.TheVariants as nexts
use Rattle.pc_world.specs.Exchange.{HeardSince, IsAllowed, IsExchange, IsLater, IsPossibleReply, WasAnswered}
use Rattle.pc_world.specs.Known.{Known}
use Rattle.pc_world.specs.Known.Transactions.{lists_write}
use Rattle.pc_world.specs.Send.Recovery.{IsOwnName, MayFind, WasFound, WasMissed}

take_all : (xs : List (List ℕ × ℕ)) (n : ℕ) → length xs ≤ n → take n xs ≡ xs
take_all [] zero low = refl
take_all [] (suc n) low = refl
take_all (x ∷ xs) zero low = absurd (omega arith)
take_all (x ∷ xs) (suc n) low = ap (λ l. x ∷ l) (take_all xs n (omega arith))

-- the place is behind the last write, where no write stands there
behind : (writes : List (List ℕ × ℕ)) (n : ℕ) → slice_get writes n ≡ None → length writes ≤ n
behind writes n none = elim ((slice_get_cases writes n).1) [ inl (x, low, is, same) ↦ absurd cc | inr (low, is) ↦ low ]

one_more : (writes : List (List ℕ × ℕ)) (n : ℕ) (w : List ℕ × ℕ) → slice_get writes n ≡ Some w → take (n + 1) writes ≡ take n writes ++ w ∷ []
one_more writes n w at =
    elim ((slice_get_cases writes n).1) [
      | inl (x, low, is, same) ↦ let e : w ≡ x = cc in take_more writes n x low ∙ ap (λ y. take n writes ++ y ∷ []) (same ∙ sym e)
      | inr (low, none) ↦ absurd cc
    ]

or_true : (a b : Bool) → a ≡ true ⊎ b ≡ true → (a || b) ≡ true
or_true true b h = refl
or_true false b (inl h) = absurd cc
or_true false b (inr h) = h

-- a write of the list is one that it lists
listed_at : (writes : List (List ℕ × ℕ)) (n : ℕ) (w : List ℕ × ℕ) → slice_get writes n ≡ Some w → lists_write w.0 w.1 writes ≡ true
listed_at [] n w at = absurd cc
listed_at (x ∷ xs) zero w at =
    let same : x ≡ w = cc in
    let itself : (x.1 == x.1) ≡ true = eq-eqb x.1 x.1 refl in
    subst (λ y. lists_write y.0 y.1 (x ∷ xs) ≡ true) same
    (or_true (same_key x.0 x.0 && x.1 == x.1) (lists_write x.0 x.1 xs) (inl (ap (λ b. b && x.1 == x.1) (same_key-self x.0) ∙ itself)))
listed_at (x ∷ xs) (suc n) w at = or_true (same_key x.0 w.0 && x.1 == w.1) (lists_write w.0 w.1 xs) (inr (listed_at xs n w at))

module _ (start k : Known) (m : Recovering) where
  were_found : (writes : List (List ℕ × ℕ)) → AreFound start k m writes → All (λ w. Any (WasFound m.holder.id m.epoch m.ts w) k.heard) writes
  were_found writes found =
      All-weaker (λ w. HeardSince start k (query_of m w) replies.Found) (λ w. Any (WasFound m.holder.id m.epoch m.ts w) k.heard)
      (λ w heard.
      any_weaker (IsExchange (query_of m w) replies.Found) (WasFound m.holder.id m.epoch m.ts w)
      (λ h is. record { by = m.by; asked = is.asked; told = is.told }) k.heard (heard_ever start k (query_of m w) replies.Found heard))
      writes found

  was_missed : (key : List ℕ) → IsMissing start k m key → Any (WasMissed m.holder.id m.epoch m.ts m.writes key m.by) k.heard
  was_missed key missing =
      any_weaker (IsExchange (query_of m (key, missing.seq)) replies.Missing) (WasMissed m.holder.id m.epoch m.ts m.writes key m.by)
      (λ h is. record { seq = missing.seq; listed = missing.listed; asked = is.asked; told = is.told }) k.heard
      (heard_ever start k (query_of m (key, missing.seq)) replies.Missing missing.heard)

  may_find : (actor : ActorId) (finding : Finding) → IsOwnName actor k m.by → HasFound start k m finding → MayFind actor k m.holder.id m.epoch m.ts m.writes finding
  may_find actor findings.All own found = were_found m.writes found
  may_find actor (findings.Missing key by) own (same, missing) =
      subst (λ by. MayFind actor k m.holder.id m.epoch m.ts m.writes (findings.Missing key by)) (sym same) (own, was_missed key missing)

  module _ (splits : List (List ℕ)) (actor : ActorId) (may : MayRecover actor k m) where
    low : All (λ ts. ts ≤ k.top + 1) (m.ts ∷ [])
    low = All-push (λ ts. ts ≤ k.top + 1) [] m.ts (All-nil (λ ts. ts ≤ k.top + 1)) may.stamps

    may_ask : (w : List ℕ × ℕ) (n : ℕ) → slice_get m.writes n ≡ Some w → IsAllowed splits actor k (query_of m w)
    may_ask w n at = record {
      row = record { own = may.own; why = inl (record { writes = m.writes; staging = may.staging; listed = listed_at m.writes n w at }) };
      stamps = low;
    }

    may_decide : (finding : Finding) → HasFound start k m finding → IsAllowed splits actor k (recover_of m finding)
    may_decide finding found = record {
      row = record { writes = m.writes; anchored = may.anchored; staging = may.staging; found = may_find actor finding may.own found };
      stamps = low;
    }

    all_found : (n : ℕ) → slice_get m.writes n ≡ None → AreFound start k m (take n m.writes) → AreFound start k m m.writes
    all_found n none found = subst (AreFound start k m) (take_all m.writes n (behind m.writes n none)) found

    come_found : (n : ℕ) (at : Option (List ℕ × ℕ)) → slice_get m.writes n ≡ at → AreFound start k m (take n m.writes) → IsAllowed splits actor k (asked_for at m)
    come_found n (Some w) at found = may_ask w n at
    come_found n None at found = may_decide findings.All (all_found n at found)

    come_over : (view : View) (final : Bool) → is_final_view view ≡ final → HasDecided start k m view → RecoveringMayCome splits actor start k m (over_by final view)
    come_over view true is was = (is, was)
    come_over view false is was = (is, was)

    come_at : (p : Progress) → RecoveryStands start k m p → RecoveringMayCome splits actor start k m (recovering_due p m)
    come_at (progress.Found n) stands = come_found n (slice_get m.writes n) refl stands
    come_at (progress.Missing key) stands = may_decide (findings.Missing key m.by) (refl, stands)
    come_at (progress.Over view) stands = come_over view (is_final_view view) refl stands

pub next_may : (m : Recovering) (r : Result MachineNext NoMemory) → IfOk r (λ next. next ≡ recovering_next m) → (splits : List (List ℕ)) (actor : ActorId) (start k : Known) → RecoverKnows actor start k m
    → IfOk r (RecoveringMayCome splits actor start k m)
next_may m (Ok next) is splits actor start k knows =
    subst (RecoveringMayCome splits actor start k m) (sym is) (come_at start k m splits actor (may_later actor start k m knows.since knows.may) m.progress knows.stands)
next_may m (Err e) is splits actor start k knows = tt

-- the machine further on
module _ (start k : Known) (m : Recovering) (on : Progress) where
  remissing : (key : List ℕ) → IsMissing start k m key → IsMissing start k (recovering_at on m) key
  remissing key missing = record { seq = missing.seq; listed = missing.listed; heard = missing.heard }

  refinding : (finding : Finding) → HasFound start k m finding → HasFound start k (recovering_at on m) finding
  refinding findings.All found = found
  refinding (findings.Missing key by) (own, missing) = (own, remissing key missing)

  restands : (p : Progress) → RecoveryStands start k m p → RecoveryStands start k (recovering_at on m) p
  restands (progress.Found n) stands = stands
  restands (progress.Missing key) stands = remissing key stands
  restands (progress.Over view) stands = record {
    finding = stands.finding;
    found = refinding stands.finding stands.found;
    heard = stands.heard;
    changed = stands.changed;
  }

module _ (actor : ActorId) (start k later : Known) (m : Recovering) (request : Request) (reply : Reply) (knows : RecoverKnows actor start k m) (was : WasAnswered k later request reply) where
  since : IsLater start later
  since = later-later start k later knows.since (answered k later request reply was).later

  heard_it : HeardSince start later request reply
  heard_it = heard_earlier start k later request reply knows.since (answered k later request reply was).heard

  stands_now : RecoveryStands start later m m.progress
  stands_now = stands_later start k later m (answered k later request reply was).later m.progress knows.stands

  goes_to : (p : Progress) → RecoveryStands start later m p → RecoverKnows actor start later (recovering_at p m)
  goes_to p stands = record {
    may = record { own = knows.may.own; staging = knows.may.staging; anchored = knows.may.anchored; stamps = knows.may.stamps };
    since = since;
    stands = restands start later m p p stands;
  }

  -- to the query for a write
  query_heard : (n : ℕ) (w : List ℕ × ℕ) → slice_get m.writes n ≡ Some w → (r : Reply) → HeardSince start later (query_of m w) r → AreFound start later m (take n m.writes) → RecoveryStands start later m (progress_after_query r w n)
  query_heard n w at replies.Found heard found =
      subst (AreFound start later m) (sym (one_more m.writes n w at))
      (All-push (λ w. HeardSince start later (query_of m w) replies.Found) (take n m.writes) w found heard)
  query_heard n w at replies.Missing heard found = record { seq = w.1; listed = listed_at m.writes n w at; heard = heard }
  query_heard n w at r heard found = found

  -- to the request that decides
  recovery_heard : (finding : Finding) → HasFound start later m finding → (before : Progress) (r : Reply) → HeardSince start later (recover_of m finding) r → IsOtherStatus m.epoch m.ts m.writes r → RecoveryStands start later m (progress_after_deciding r before)
  recovery_heard finding found before (replies.Status view) heard other = record { finding = finding; found = found; heard = heard; changed = other }
  recovery_heard finding found before r heard other = absurd other

  module _ (is : IsPossibleReply request reply) where
    decided_on : (finding : Finding) → HasFound start later m finding → (before : Progress) → request ≡ recover_of m finding → RecoveryStands start later m (progress_after_deciding reply before)
    decided_on finding found before asked =
        recovery_heard finding found before reply (subst (λ q. HeardSince start later q reply) asked heard_it)
        (recovery_differs m.epoch m.ts m.writes m.holder.id m.holder.anchor finding reply (subst (λ q. IsPossibleReply q reply) asked is))

    found_on : (n : ℕ) (at : Option (List ℕ × ℕ)) → slice_get m.writes n ≡ at → AreFound start later m (take n m.writes) → request ≡ asked_for at m → RecoveryStands start later m (progress_after at reply n)
    found_on n (Some w) at found asked = query_heard n w at reply (subst (λ q. HeardSince start later q reply) asked heard_it) found
    found_on n None at found asked = decided_on findings.All (subst (AreFound start later m) (take_all m.writes n (behind m.writes n at)) found) (progress.Found n) asked

    over_sends : (view : View) (final : Bool) → over_by final view ≡ nexts.Send request → ⊥
    over_sends view true due = cc
    over_sends view false due = cc

    stands_on : (p : Progress) → RecoveryStands start later m p → recovering_due p m ≡ nexts.Send request → RecoveryStands start later m (recovering_heard p reply m)
    stands_on (progress.Found n) stands due = let asked : request ≡ asked_for (slice_get m.writes n) m = cc in found_on n (slice_get m.writes n) refl stands asked
    stands_on (progress.Missing key) stands due = let asked : request ≡ recover_of m (findings.Missing key m.by) = cc in decided_on (findings.Missing key m.by) (refl, stands) (progress.Missing key) asked
    stands_on (progress.Over view) stands due = absurd (over_sends view (is_final_view view) due)

    knows_on : recovering_next m ≡ nexts.Send request → RecoverKnows actor start later (recovering_after reply m)
    knows_on due = goes_to (recovering_heard m.progress reply m) (stands_on m.progress stands_now due)

on_ok : (r : Result (Unit {0}) NoMemory) (P Q : Type 0) → (P → Q) → OnOk r P → OnOk r Q
on_ok (Ok u) P Q f p = f p
on_ok (Err e) P Q f p = tt

pub heard_ok : (m new : Recovering) (reply : Reply) (r : Result (Unit {0}) NoMemory) → OnOk r (new ≡ recovering_after reply m) → (actor : ActorId) (start k later : Known) (request : Request) → RecoverKnows actor start k m → recovering_next m ≡ nexts.Send request
    → WasAnswered k later request reply → IsPossibleReply request reply → OnOk r (RecoverKnows actor start later new)
heard_ok m new reply r made actor start k later request knows due was is =
    on_ok r (new ≡ recovering_after reply m) (RecoverKnows actor start later new)
    (λ e. subst (RecoverKnows actor start later) (sym e) (knows_on actor start k later m request reply knows was is due)) made
