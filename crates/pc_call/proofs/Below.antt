-- None of the conflicts that a refused stage passed over was the eighth of its write: so it stays while the call goes on.
use Rattle.std.proofs.Common.{◌≡◌, ◌⊎◌, inl, inr, ℕ, ◌+◌, ◌≤◌, ◌<◌, arith, Bool, true, false, cond, List, [], ◌∷◌, ◌++◌, length, Option, Some, fold, refl, sym, ap, ◌∙◌, subst, All, IsTrue}
use Rattle.std.proofs.lemmas.List.Elements.{All-cons, All-head, All-nil, All-tail, All-weaker}
use Rattle.std.proofs.lemmas.List.Sums.{fold-append}
use Rattle.pc_base.specs.declared.limits.TheConstants.{MOST_CONFLICTS}
use Rattle.pc_call.proofs.Settled.{rounds_fresh}
use Rattle.pc_call.proofs.WhySent.{rounds_sent}
use Rattle.pc_call.proofs.WhyStays.{eighth_back, made_then}
use Rattle.pc_call.specs.Fresh.{ShowsAlive}
use Rattle.pc_call.specs.Learned.{known_heard, known_sent}
use Rattle.pc_call.specs.Met.{AreMetBy, ArePassedBelow}
use Rattle.pc_call.specs.Serving.{IsOpenIn}
use Rattle.pc_follows.specs.NextBlock.{IsAtItsEighth}
use Rattle.pc_follows.specs.OwnStages.{refuses_stage}
use Rattle.pc_follows.specs.RoundsMade.{RoundCount, all_passed, gone_on, is_open_one, no_rounds, one_over, rounds_after, rounds_by, rounds_made, with_conflict}
use Rattle.pc_proto.specs.declared.reply.Reply.{Reply}
use Rattle.pc_proto.specs.declared.reply.Reply.TheVariants as replies
use Rattle.pc_proto.specs.declared.request.Request.{Request}
use Rattle.pc_proto.specs.declared.request.Request.TheVariants as requests
use Rattle.pc_proto.specs.Replies.{is_conflict}
use Rattle.pc_proto.specs.Views.{is_final_view}
use Rattle.pc_wave.proofs.Lists.{at_least-before, at_least-fewer}
use Rattle.pc_wave.specs.Course.{Course}
use Rattle.pc_wave.specs.declared.message.Message.{Message}
use Rattle.pc_wave.specs.Standing.{MessageStands, goes_beside}
use Rattle.pc_world.specs.Answering.{MayAnswer}
use Rattle.pc_world.specs.Counting.{AtLeast}
use Rattle.pc_world.specs.Known.{Known, open_txn}
use Rattle.pc_world.specs.Known.Traffic.{Heard}
use Rattle.pc_world.specs.Known.Transactions.{Txn}
use Rattle.pc_world.specs.Tell.Refusal.{IsConflictOf}

-- The conflicts that were passed over are told of no more, or are the same.
abbrev Leaves : List Heard → List Heard → Type 0
Leaves now before = (now ≡ []) ⊎ (now ≡ before)

-- where none was passed over, none was an eighth
pub below_none : (k : Known) → (rounds_made k).passed ≡ [] → ArePassedBelow k
below_none k none = subst (λ hs. All (λ h. IsAtItsEighth k h.request → ⊥) hs) (sym none) (All-nil (λ h. IsAtItsEighth k h.request → ⊥))

-- nor where the same were, and no more of them is an eighth
pub below_same : (k k2 : Known) → (rounds_made k2).passed ≡ (rounds_made k).passed → ((request : Request) → IsAtItsEighth k2 request → IsAtItsEighth k request) → ArePassedBelow k → ArePassedBelow k2
below_same k k2 same back below =
    subst (λ hs. All (λ h. IsAtItsEighth k2 h.request → ⊥) hs) (sym same)
    (All-weaker (λ h. IsAtItsEighth k h.request → ⊥) (λ h. IsAtItsEighth k2 h.request → ⊥) (λ h no eight. no (back h.request eight)) (rounds_made k).passed below)

below_left : (k k2 : Known) → Leaves (rounds_made k2).passed (rounds_made k).passed → ((request : Request) → IsAtItsEighth k2 request → IsAtItsEighth k request) → ArePassedBelow k → ArePassedBelow k2
below_left k k2 (inl none) back below = below_none k2 none
below_left k k2 (inr same) back below = below_same k k2 same back below

-- none was passed over in a call that begins
pub below_fresh : (k : Known) → All ShowsAlive k.heard_now → ArePassedBelow k
below_fresh k heard = below_none k (ap (λ (r : RoundCount). r.passed) (rounds_fresh k heard))

-- ---- a message went out

pub below_sent : (k : Known) (t : Txn) (open_in : IsOpenIn k t) (number range : ℕ) (request : Request) → length k.sent + 1 ≤ number → All (λ h. h.number ≤ length k.sent) k.heard_now → ArePassedBelow k → ArePassedBelow (known_sent number range request k)
below_sent k t open_in number range request new low below =
    below_same k (known_sent number range request k) (ap (λ (r : RoundCount). r.passed) (rounds_sent k t open_in number range request new low)) (λ request eight. eight) below

-- ---- a reply was heard

recovered_leaves : (b : Bool) (recovered over : RoundCount) (before : List Heard) → recovered.passed ≡ before → over.passed ≡ before → (cond b recovered over).passed ≡ before
recovered_leaves true recovered over before one other = one
recovered_leaves false recovered over before one other = other

-- what is no refused stage passes over none
leaves_by : (o : Option Txn) (h : Heard) (q : Request) (reply : Reply) (r : RoundCount) → refuses_stage q reply ≡ false → Leaves (rounds_by o h q reply r).passed r.passed
leaves_by o h (requests.Push holder by level now goal) reply r none = inr refl
leaves_by o h (requests.Recover id epoch ts anchor finding) (replies.Status view) r none = inr (recovered_leaves (is_final_view view) (record r { recovered = Some view }) (one_over r) r.passed refl refl)
leaves_by o h (requests.Recover id epoch ts anchor finding) reply r none = inl refl
leaves_by o h (requests.Resolve id key fate) replies.Resolved r none = inr refl
leaves_by o h (requests.Resolve id key fate) reply r none = inl refl
leaves_by o h (requests.Query id epoch seq ts key by) replies.Found r none = inr (recovered_leaves (is_open_one o id) (one_over r) r r.passed refl refl)
leaves_by o h (requests.Query id epoch seq ts key by) reply r none = inl refl
leaves_by o h (requests.Stage meta ts now writes locks) reply r none = inl (ap (λ b. (cond b (all_passed r) (gone_on r)).passed) none)
leaves_by o h (requests.Beat meta ts now) reply r none = inr refl
leaves_by o h q reply r none = inl refl

-- behind a conflict the call goes on
conflict_goes : (o : Option Txn) (h : Heard) (q : Request) (reply : Reply) (r : RoundCount) → MayAnswer q reply → is_conflict reply ≡ true → (rounds_by o h q reply r).passed ≡ []
conflict_goes o h (requests.Get id epoch seq ts key) reply r may is = refl
conflict_goes o h (requests.Scan id epoch seq ts span) reply r may is = refl
conflict_goes o h (requests.Put meta seq ts key value) reply r may is = refl
conflict_goes o h q (replies.Conflict holder ts key) r may is = absurd may
conflict_goes o h q reply r may is = absurd cc

module _ (k : Known) (t : Txn) (h : Heard) (open_in : IsOpenIn k t) (may : MayAnswer h.request h.reply) (none : refuses_stage h.request h.reply ≡ false) where
  now : (rounds_made (known_heard h k)).passed ≡ (rounds_by (Some t) h h.request h.reply (with_conflict h (rounds_made k))).passed
  now = ap (λ (r : RoundCount). r.passed) (made_then k t h open_in)

  left : Leaves (rounds_made (known_heard h k)).passed (rounds_made k).passed
  left = elim (leaves_by (Some t) h h.request h.reply (with_conflict h (rounds_made k)) none) [ inl gone ↦ inl (now ∙ gone) | inr same ↦ inr (now ∙ same) ]

  pub below_heard : ArePassedBelow k → ArePassedBelow (known_heard h k)
  below_heard below = by (is_conflict h.reply) refl
    where
      by : (b : Bool) → is_conflict h.reply ≡ b → ArePassedBelow (known_heard h k)
      by true met = below_none (known_heard h k) (now ∙ conflict_goes (Some t) h h.request h.reply (with_conflict h (rounds_made k)) may met)
      by false plain = below_left k (known_heard h k) left (eighth_back k t h open_in plain) below

-- ---- the session went on beside its call

beside_stages : (q : Request) (reply : Reply) → goes_beside q ≡ true → refuses_stage q reply ≡ false
beside_stages (requests.Stage meta ts now writes locks) reply beside = absurd cc
beside_stages q reply beside = refl

both_leave : (last then before : List Heard) → Leaves then before → Leaves last then → Leaves last before
both_leave last then before one (inl none) = inl none
both_leave last then before (inl none) (inr same) = inl (same ∙ none)
both_leave last then before (inr is) (inr same) = inr (same ∙ is)

leaves_beside : (o : Option Txn) (hs : List Heard) (r : RoundCount) → All (λ h. IsTrue (goes_beside h.request)) hs → Leaves (fold (rounds_after o) r hs).passed r.passed
leaves_beside o [] r beside = inr refl
leaves_beside o (h ∷ hs) r beside =
    both_leave (fold (rounds_after o) (rounds_after o r h) hs).passed (rounds_after o r h).passed r.passed
    (leaves_by o h h.request h.reply (with_conflict h r) (beside_stages h.request h.reply (All-head (λ h. IsTrue (goes_beside h.request)) h hs beside)))
    (leaves_beside o hs (rounds_after o r h) (All-tail (λ h. IsTrue (goes_beside h.request)) h hs beside))

pub below_beside : (start k : Known) (more : List Heard) → open_txn k ≡ open_txn start → k.heard_now ≡ start.heard_now ++ more → All (λ h. IsTrue (goes_beside h.request)) more → All (λ h. is_conflict h.reply ≡ false) more → ArePassedBelow start → ArePassedBelow k
below_beside start k more first is beside unmet below =
    below_left start k (subst (λ (r : RoundCount). Leaves r.passed (rounds_made start).passed) (sym made) (leaves_beside (open_txn start) more (rounds_made start) beside)) back below
  where
    made : rounds_made k ≡ fold (rounds_after (open_txn start)) (rounds_made start) more
    made =
        ap (λ o. fold (rounds_after o) no_rounds k.heard_now) first
        ∙ ap (λ hs. fold (rounds_after (open_txn start)) no_rounds hs) is
        ∙ fold-append (rounds_after (open_txn start)) no_rounds start.heard_now more

    back : (request : Request) → IsAtItsEighth k request → IsAtItsEighth start request
    back request eight =
        at_least-before (IsConflictOf request) MOST_CONFLICTS start.heard_now more
        (All-weaker (λ h. is_conflict h.reply ≡ false) (λ h. IsConflictOf request h → ⊥) (λ h plain c. let e : false ≡ true = sym plain ∙ c.conflict in absurd cc) more unmet)
        (subst (λ hs. AtLeast (IsConflictOf request) MOST_CONFLICTS hs) is eight)

-- ---- a stage was refused

-- conflicts of messages that met fewer are no eighths
pub met_below : (c : Course) (k : Known) (xs : List Message) (hs : List Heard) → AreMetBy xs hs → All (MessageStands c k) xs → All (λ m. m.conflicts < MOST_CONFLICTS) xs → All (λ h. IsAtItsEighth k h.request → ⊥) hs
met_below c k [] [] met stand few = All-nil (λ h. IsAtItsEighth k h.request → ⊥)
met_below c k [] (h ∷ hs) met stand few = absurd met
met_below c k (m ∷ xs) [] met stand few = All-nil (λ h. IsAtItsEighth k h.request → ⊥)
met_below c k (m ∷ xs) (h ∷ hs) (inl (met, rest)) stand few =
    All-cons (λ h. IsAtItsEighth k h.request → ⊥) h hs below
    (met_below c k xs hs rest (All-tail (MessageStands c k) m xs stand) (All-tail (λ m. m.conflicts < MOST_CONFLICTS) m xs few))
  where
    below : IsAtItsEighth k h.request → ⊥
    below eight =
        let low = All-head (λ m. m.conflicts < MOST_CONFLICTS) m xs few in
        (All-head (MessageStands c k) m xs stand).counted.no_more
        (at_least-fewer (IsConflictOf m.request) (m.conflicts + 1) MOST_CONFLICTS k.heard_now (omega (arith, low)) (subst (λ q. AtLeast (IsConflictOf q) MOST_CONFLICTS k.heard_now) (sym met.asked) eight))
met_below c k (m ∷ xs) (h ∷ hs) (inr (none, rest)) stand few = met_below c k xs (h ∷ hs) rest (All-tail (MessageStands c k) m xs stand) (All-tail (λ m. m.conflicts < MOST_CONFLICTS) m xs few)

-- so none is, of those that a refused stage passed over
pub below_passed : (c : Course) (k : Known) (xs : List Message) (before : RoundCount) → rounds_made k ≡ all_passed before → AreMetBy xs before.waiting → All (MessageStands c k) xs → All (λ m. m.conflicts < MOST_CONFLICTS) xs → ArePassedBelow k
below_passed c k xs before is met stand few = subst (λ (r : RoundCount). All (λ h. IsAtItsEighth k h.request → ⊥) r.passed) (sym is) (met_below c k xs before.waiting met stand few)
