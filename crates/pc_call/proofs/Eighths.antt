-- Nothing of a call met its eighth where none of its messages did.
use Rattle.std.proofs.Common.{◌≡◌, ℕ, ◌+◌, ◌<◌, Bool, true, false, inl, inr, List, [], ◌∷◌, Some, zero, suc, sym, ap, ◌∙◌, subst, arith, All}
use Rattle.std.proofs.lemmas.List.Elements.{All-cons, All-head, All-nil, All-tail}
use Rattle.std.proofs.lemmas.Option.{same_Some}
use Rattle.pc_base.specs.declared.limits.TheConstants.{MOST_CONFLICTS}
use Rattle.pc_base.specs.declared.transaction.TxnId.{TxnId}
use Rattle.pc_call.specs.Serving.{NoOtherMetEighth}
use Rattle.pc_call.specs.Telling.{TellsAfterEighth}
use Rattle.pc_proto.specs.declared.answer.Answer.{Answer}
use Rattle.pc_proto.specs.declared.answer.Answer.TheVariants as answers
use Rattle.pc_proto.specs.declared.call.Call.TheVariants as calls
use Rattle.pc_proto.specs.declared.request.Request.{Request}
use Rattle.pc_proto.specs.declared.request.Request.TheVariants as requests
use Rattle.pc_wave.proofs.Lists.{at_least-fewer}
use Rattle.pc_wave.specs.declared.message.Message.{Message}
use Rattle.pc_wave.specs.Standing.{MessageStands}
use Rattle.pc_wave.specs.Course.{Course}
use Rattle.pc_world.specs.Counting.{AtLeast}
use Rattle.pc_follows.specs.Eighth.{IsBlockedAnswer, IsMovedAnswer, MetEighth, TellsTheEighth, WasMovedEighth}
use Rattle.pc_world.specs.Known.{Known}
use Rattle.pc_world.specs.Known.Statements.{Statement}
use Rattle.pc_world.specs.SameRequest.{IsSamePut, IsSameRequest}
use Rattle.pc_world.specs.Tell.Refusal.{IsConflictOf}

pub same_sym : (one other : Request) → IsSameRequest one other → IsSameRequest other one
same_sym one other (inl e) = inl (sym e)
same_sym (requests.Put meta seq ts key value) (requests.Put to at when place what) (inr (a, b, c)) = inr (sym a, sym b, sym c)
same_sym one other (inr same) = absurd same

put_trans : (one two three : Request) → IsSamePut one two → IsSamePut two three → IsSamePut one three
put_trans (requests.Put a b c d e) (requests.Put f g h i j) (requests.Put l m n o p) x y = (x.0 ∙ y.0, x.1 ∙ y.1, x.2 ∙ y.2)
put_trans (requests.Put a b c d e) (requests.Put f g h i j) three x y = absurd y
put_trans (requests.Put a b c d e) two three x y = absurd x
put_trans one two three x y = absurd x

pub same_trans : (one two three : Request) → IsSameRequest one two → IsSameRequest two three → IsSameRequest one three
same_trans one two three (inl e) h = subst (λ r. IsSameRequest r three) (sym e) h
same_trans one two three (inr put) (inl e) = subst (λ r. IsSameRequest one r) e (inr put)
same_trans one two three (inr put) (inr other) = inr (put_trans one two three put other)

module _ {X : Type 0} (P Q : X → Type 0) (all : (x : X) → P x → Q x) where
  pub at_least-weaker : (n : ℕ) (xs : List X) → AtLeast P n xs → AtLeast Q n xs
  at_least-weaker zero xs a = tt
  at_least-weaker (suc n) [] a = a
  at_least-weaker (suc n) (x ∷ xs) (inl (p, rest)) = inl (all x p, at_least-weaker n xs rest)
  at_least-weaker (suc n) (x ∷ xs) (inr rest) = inr (at_least-weaker (suc n) xs rest)

module _ (c : Course) (k : Known) (waits : Request → Type 0) (ms : List Message) (fewer : NoOtherMetEighth waits k.heard_now ms) where
  none_of : (r : Request) → MetEighth k r → (xs : List Message) → All (MessageStands c k) xs → All (λ m. m.conflicts < MOST_CONFLICTS) xs → All (λ m. IsSameRequest m.request r → ⊥) xs
  none_of r eight [] stand few = All-nil (λ (m : Message). IsSameRequest m.request r → ⊥)
  none_of r eight (m ∷ xs) stand few =
      let st = All-head (MessageStands c k) m xs stand in
      let low = All-head (λ (m : Message). m.conflicts < MOST_CONFLICTS) m xs few in
      All-cons (λ (m : Message). IsSameRequest m.request r → ⊥) m xs
      (λ same. st.counted.no_more (at_least-fewer (IsConflictOf m.request) (m.conflicts + 1) MOST_CONFLICTS k.heard_now (omega (arith, low))
      (at_least-weaker (IsConflictOf r) (IsConflictOf m.request) (λ h c. record { same = same_trans m.request r h.request same c.same; conflict = c.conflict }) MOST_CONFLICTS k.heard_now eight)))
      (none_of r eight xs (All-tail (MessageStands c k) m xs stand) (All-tail (λ (m : Message). m.conflicts < MOST_CONFLICTS) m xs few))

  -- no request met its eighth where each message met fewer
  pub none_eighth : All (MessageStands c k) ms → All (λ m. m.conflicts < MOST_CONFLICTS) ms → (r : Request) → (waits r → ⊥) → MetEighth k r → ⊥
  none_eighth stand few r left eight = fewer r left (none_of r eight ms stand few) eight

-- a call that is no commit may be told anything then
pub no_eighth : (k : Known) (w : Statement) (answer : Answer) → k.statement ≡ Some w → (w.call ≡ calls.Commit → ⊥) → ((r : Request) → MetEighth k r → ⊥) → (s : Statement) → k.statement ≡ Some s → TellsTheEighth k s answer
no_eighth k w answer opened other none s is =
    let same : w ≡ s = same_Some w s (sym opened ∙ is) in
    record { blocked = λ no r eight. absurd (none r eight); moved = λ asked eight. absurd (other (ap (λ (s : Statement). s.call) same ∙ asked)) }

-- and a commit that was not moved eight times
pub no_eighth_move : (k : Known) (w : Statement) (answer : Answer) → k.statement ≡ Some w → w.call ≡ calls.Commit → (WasMovedEighth k → ⊥) → (s : Statement) → k.statement ≡ Some s → TellsTheEighth k s answer
no_eighth_move k w answer opened call none s is =
    let same : w ≡ s = same_Some w s (sym opened ∙ is) in
    record { blocked = λ no r eight. absurd (no (sym (ap (λ (s : Statement). s.call) same) ∙ call)); moved = λ asked eight. absurd (none eight) }

-- a commit that is told that it was moved
pub told_moved : (k : Known) (w : Statement) (answer : Answer) → k.statement ≡ Some w → w.call ≡ calls.Commit → IsMovedAnswer answer → (s : Statement) → k.statement ≡ Some s → TellsTheEighth k s answer
told_moved k w answer opened call moved s is =
    let same : w ≡ s = same_Some w s (sym opened ∙ is) in
    record { blocked = λ no r eight. absurd (no (sym (ap (λ (s : Statement). s.call) same) ∙ call)); moved = λ asked eight. inl moved }

-- another call that is told that it is blocked
pub told_blocked : (k : Known) (w : Statement) (answer : Answer) → k.statement ≡ Some w → (w.call ≡ calls.Commit → ⊥) → IsBlockedAnswer answer → (s : Statement) → k.statement ≡ Some s → TellsTheEighth k s answer
told_blocked k w answer opened other blocked s is =
    let same : w ≡ s = same_Some w s (sym opened ∙ is) in
    record { blocked = λ no r eight. blocked; moved = λ asked eight. absurd (other (ap (λ (s : Statement). s.call) same ∙ asked)) }

-- so it may be told, whether messages may be lost or not
pub any_eighth : (loses : Bool) (k : Known) (answer : Answer) → ((s : Statement) → k.statement ≡ Some s → TellsTheEighth k s answer) → (s : Statement) → k.statement ≡ Some s → TellsAfterEighth loses k s answer
any_eighth false k answer tells s is = tells s is
any_eighth true k (answers.Unavailable faults) tells s is = tt
any_eighth true k (answers.Unknown id) tells s is = tt
any_eighth true k answer tells s is = tells s is

-- where they may, a call of which a message is lost is told so first
pub lost_eighth : (loses : Bool) → loses ≡ true → (k : Known) (s : Statement) (faults : ℕ) → TellsAfterEighth loses k s (answers.Unavailable faults)
lost_eighth true is k s faults = tt
lost_eighth false is k s faults = absurd cc

pub unknown_eighth : (loses : Bool) → loses ≡ true → (k : Known) (s : Statement) (id : TxnId) → TellsAfterEighth loses k s (answers.Unknown id)
unknown_eighth true is k s id = tt
unknown_eighth false is k s id = absurd cc
