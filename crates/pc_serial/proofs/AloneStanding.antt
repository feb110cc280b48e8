-- One session alone: each intent is of the transaction that was begun last, and is open or will be settled before the next call; so no request meets
-- an intent of another.
use Rattle.std.proofs.Common.{◌≡◌, ℕ, ◌≤◌, Bool, true, false, ◌==◌, cond, if◌then◌else◌, List, [], ◌∷◌, ◌++◌, length, find, map, ◌⊎◌, inl, inr, Option, None, Some, Contains, IsTrue, refl, sym, ap, subst, ◌∙◌}
use Rattle.std.proofs.lemmas.Bool.{eqb-true}
use Rattle.std.proofs.lemmas.List.Elements.{Contains-append_left, Contains-push}
use Rattle.std.proofs.lemmas.List.Folds.{Any-from_list_any}
use Rattle.std.specs.List.{AllByRecursion as Each}
use Rattle.std.specs.Option.{option_and_then, option_map, option_to_list}
use Rattle.std.specs.Prelude.{⊤}
use Rattle.pc_base.specs.declared.actor.ActorId.{ActorId}
use Rattle.pc_base.specs.declared.entry.Entry.{Entry}
use Rattle.pc_base.specs.declared.transaction.TxnId.{TxnId}
use Rattle.pc_history.specs.Own.{named_in}
use Rattle.pc_implicit.proofs.Doing.{same_or_not}
use Rattle.pc_implicit.proofs.Hearing.{heard_is_so}
use Rattle.pc_implicit.proofs.OwnKeys.{Ends}
use Rattle.pc_lists.proofs.Each.{each-append, each-contains, each-weaker}
use Rattle.pc_lists.proofs.Lists.{contains_head, contains_tail}
use Rattle.pc_proto.specs.declared.answer.Answer.{Answer}
use Rattle.pc_proto.specs.declared.event.Event.{Event}
use Rattle.pc_proto.specs.declared.event.Event.TheVariants as events
use Rattle.pc_proto.specs.declared.fate.Fate.{Fate}
use Rattle.pc_proto.specs.declared.fate.Fate.TheVariants as fates
use Rattle.pc_proto.specs.declared.reply.Reply.{Reply}
use Rattle.pc_proto.specs.declared.reply.Reply.TheVariants as replies
use Rattle.pc_proto.specs.declared.request.Request.{Request}
use Rattle.pc_proto.specs.declared.request.Request.TheVariants as requests
use Rattle.pc_proto.specs.declared.view.View.{View}
use Rattle.pc_proto.specs.declared.view.View.TheVariants as views
use Rattle.pc_proto.specs.declared.why.Why.{Why}
use Rattle.pc_proto.specs.Replies.{is_conflict, view_in}
use Rattle.pc_proto.specs.Requests.{is_abort_of}
use Rattle.pc_proto.specs.Views.{AbortsWith, final_fate, is_final_view}
use Rattle.pc_serial.proofs.AloneIntents.{IsForIt}
use Rattle.pc_serial.proofs.AloneJobs.{HasMessage, IsFinishing, IsLocked}
use Rattle.pc_serial.specs.QuietWire.{IsEvaluated, the_session}
use Rattle.pc_world.proofs.Knowing.{known_other, known_same}
use Rattle.pc_world.proofs.Prefixes.{run_induction}
use Rattle.pc_world.specs.After.{known_at}
use Rattle.pc_world.specs.Answering.{MayAnswer}
use Rattle.pc_world.specs.Caused.{Evaluates}
use Rattle.pc_world.specs.Known.{Known, first_if, open_txn, told_first, txn_begun}
use Rattle.pc_world.specs.Known.Statements.{Statement}
use Rattle.pc_world.specs.Known.Traffic.{Heard, Sent, heard_after, heard_by, heard_now_after, request_sent}
use Rattle.pc_world.specs.Known.Transactions.{Txn, txn_told}
use Rattle.pc_world.specs.Local.{Head, is_outside}
use Rattle.pc_world.specs.RangeOf.{range_of}
use Rattle.pc_world.specs.Run.{IsRun, protocol}
use Rattle.pc_world.specs.Tell.Refusal.{is_heard}
use Rattle.pc_world.specs.Views.{ShowsAborted, fate_shown}

-- ---- what stands

-- The transaction that the session began last.
abbrev pub last_of : Known → TxnId
last_of k = record { session = 1; number = k.begun }

-- A message of the request was sent, and was not evaluated yet.
pub record IsWaiting (history : List (Entry Event)) (k : Known) (request : Request) : Type 0 where
  pub m : Sent
  pub listed : Contains k.sent m
  pub asks : m.request ≡ request
  pub waits : IsEvaluated m.number history → ⊥

-- The transaction's intent at the key will be settled.
abbrev pub WillSettle : List (Entry Event) → Known → List (List Request) → TxnId → List ℕ → Type 0
WillSettle history k jobs id key =
    (fate : Fate) × Ends fate × (HasMessage jobs (requests.Resolve id key fate) ⊎ IsWaiting history k (requests.Resolve id key fate))

-- An intent at the key of the transaction that was begun last: in the key's range, among its locks, and open or about to be settled.
pub record IsKept (head : Head) (history : List (Entry Event)) (k : Known) (jobs : List (List Request)) (range : ℕ) (key : List ℕ) : Type 0 where
  pub there : range ≡ range_of head.splits key
  pub locked : IsLocked (last_of k) key k.txns
  pub rest : (k.is_open ≡ true) ⊎ ((k.statement ≡ None) × WillSettle history k jobs (last_of k) key)

-- A request that waits is of the transaction that was begun last, as far as it reads or writes; a put waits only while that is open.
abbrev pub IsOfLast : Known → Request → Type 0
IsOfLast k (requests.Get id epoch seq ts key) = id ≡ last_of k
IsOfLast k (requests.Scan id epoch seq ts span) = id ≡ last_of k
IsOfLast k (requests.Put meta seq ts key value) = (meta.id ≡ last_of k) × (k.is_open ≡ true) × IsLocked (last_of k) key k.txns
IsOfLast k _ = ⊤

-- What stands of what the session knows, with these jobs that wait.
pub record StandsAs (history : List (Entry Event)) (k : Known) (jobs : List (List Request)) : Type 0 where
  pub finishing : Each (Each IsFinishing) jobs
  pub outside : (s : Statement) → k.statement ≡ Some s → is_outside s.call ≡ true → k.is_open ≡ false
  pub first : (t : Txn) → open_txn k ≡ Some t → t.id ≡ last_of k
  pub numbered : (m : Sent) → Contains k.sent m → m.number ≤ length k.sent
  pub waiting : (m : Sent) → Contains k.sent m → (IsEvaluated m.number history → ⊥) → IsOfLast k m.request

-- The event is no evaluation that meets an intent.
abbrev pub MeetsNone : Event → Type 0
MeetsNone (events.Eval actor number reply) = is_conflict reply ≡ false
MeetsNone _ = ⊤

-- ---- what it takes

pub for_it : (k : Known) (request : Request) → IsOfLast k request → IsForIt (last_of k) request
for_it k (requests.Get id epoch seq ts key) is = is
for_it k (requests.Scan id epoch seq ts span) is = is
for_it k (requests.Put meta seq ts key value) is = is.0
for_it k request is = tt

pub sent-there : (number : ℕ) (sent : List Sent) (request : Request) → request_sent number sent ≡ Some request → (m : Sent) × Contains sent m × (m.number ≡ number) × (m.request ≡ request)
sent-there number [] request is = absurd cc
sent-there number (m ∷ sent) request is = by (m.number == number) refl is (sent-there number sent request)
  where
    by : (b : Bool) → (m.number == number) ≡ b → option_map (λ (s : Sent). s.request) (cond b (Some m) (find (λ s. s.number == number) sent)) ≡ Some request
        → (request_sent number sent ≡ Some request → (x : Sent) × Contains sent x × (x.number ≡ number) × (x.request ≡ request))
        → (x : Sent) × Contains (m ∷ sent) x × (x.number ≡ number) × (x.request ≡ request)
    by true same is rest = (m, contains_head m sent, eqb-true m.number number same, cc)
    by false differ is rest = let r = rest is in (r.0, contains_tail m sent r.0 r.1, r.2, r.3)

pub closed-none : (txns : List Txn) (t : Txn) → first_if false txns ≡ Some t → ⊥
closed-none [] t is = cc
closed-none (x ∷ xs) t is = cc

pub first-mapped : (id : TxnId) (f : Txn → Txn) → ((t : Txn) → (f t).id ≡ t.id) → (b : Bool) (txns : List Txn) → ((t : Txn) → first_if b txns ≡ Some t → t.id ≡ id) → (t : Txn) → first_if b (map f txns) ≡ Some t → t.id ≡ id
first-mapped id f same b [] given t is = absurd cc
first-mapped id f same true (x ∷ xs) given t is = let e : f x ≡ t = cc in sym (ap (λ (y : Txn). y.id) e) ∙ same x ∙ given x refl
first-mapped id f same false (x ∷ xs) given t is = absurd cc

pub first-told : (id : TxnId) (answer : Answer) (replied : List Heard) (was now : Bool) (txns : List Txn) → (now ≡ true → was ≡ true) → ((t : Txn) → first_if was txns ≡ Some t → t.id ≡ id)
    → (t : Txn) → first_if now (cond was (told_first answer replied txns) txns) ≡ Some t → t.id ≡ id
first-told id answer replied was false txns on given t is = absurd (closed-none (cond was (told_first answer replied txns) txns) t is)
first-told id answer replied true true [] on given t is = absurd cc
first-told id answer replied true true (x ∷ xs) on given t is = let e : txn_told answer replied x ≡ t = cc in sym (ap (λ (y : Txn). y.id) e) ∙ given x refl
first-told id answer replied false true txns on given t is = absurd (let both = on refl in cc both)

pub begun-id : (s : Option Statement) (id : TxnId) (ts : ℕ) → (txn_begun s id ts).id ≡ id
begun-id None id ts = refl
begun-id (Some s) id ts = refl

-- what was heard since the last call was heard
pub now_heard : (head : Head) (history : List (Entry Event)) → IsRun head history → (actor : ActorId) → Each (λ h. Contains (known_at head actor history).heard h) (known_at head actor history).heard_now
now_heard head = run_induction head (λ history. (actor : ActorId) → Each (λ h. Contains (known_at head actor history).heard h) (known_at head actor history).heard_now) (λ actor. tt) (λ history e run may all actor.
    let k = known_at head actor history in
    elim (same_or_not e.actor actor) [
      | inl same ↦
          subst (λ (l : Known). Each (λ h. Contains l.heard h) l.heard_now) (sym (known_same head actor history e same))
          (by e.event (heard_by e.event (named_in (protocol head) history e.event) k.sent) k.heard k.heard_now (all actor))
      | inr differ ↦ subst (λ (l : Known). Each (λ h. Contains l.heard h) l.heard_now) (sym (known_other head actor history e differ)) (all actor)
    ])
  where
    more : (o : Option Heard) (heard now : List Heard) → Each (λ h. Contains heard h) now → Each (λ h. Contains (heard ++ option_to_list o) h) (now ++ option_to_list o)
    more None heard now a = each-append (λ h. Contains (heard ++ []) h) now [] (each-weaker (λ h. Contains heard h) (λ h. Contains (heard ++ []) h) (λ h there. Contains-append_left heard [] h there) now a) tt
    more (Some g) heard now a =
        each-append (λ h. Contains (heard ++ g ∷ []) h) now (g ∷ []) (each-weaker (λ h. Contains heard h) (λ h. Contains (heard ++ g ∷ []) h) (λ h there. Contains-append_left heard (g ∷ []) h there) now a)
        (Contains-push heard g, tt)

    by : (event : Event) (o : Option Heard) (heard now : List Heard) → Each (λ h. Contains heard h) now → Each (λ h. Contains (heard_after o heard) h) (heard_now_after event o now)
    by (events.Ask call reading) o heard now a = tt
    by event o heard now a = more o heard now a

-- what was heard was evaluated
pub heard_evaluated : (head : Head) (history : List (Entry Event)) → IsRun head history → (m : Sent) → IsTrue (is_heard (known_at head the_session history).heard m) → IsEvaluated m.number history
heard_evaluated head history run m is =
    let a = Any-from_list_any (λ (h : Heard). h.number == m.number) (known_at head the_session history).heard is in
    let h = a.1 in
    let same : h.number ≡ m.number = eqb-true h.number m.number a.4 in
    let w = each-contains _ (known_at head the_session history).heard h (heard_is_so head history run the_session) (a.0, a.2, a.3) in
    (w.eval, w.evaluated, subst (Evaluates the_session m.number) (sym w.told) (refl, same))

-- an abort is answered by a final view
pub abort-shows : (id : TxnId) (request : Request) (told : Reply) (number step : ℕ) → IsTrue (is_abort_of id request) → MayAnswer request told
    → (fate : Fate) × (fate_shown id (record { number = number; request = request; reply = told; step = step }) ≡ Some fate)
abort-shows id (requests.Abort meta why locks) told number step is kind = by told kind
  where
    view-fate : (view : View) → is_final_view view ≡ true → (fate : Fate) × (final_fate view ≡ Some fate)
    view-fate (views.Committed epoch ts locks) final = (fates.Committed epoch ts, refl)
    view-fate (views.Aborted epoch cause locks) final = (fates.Aborted, refl)
    view-fate view final = absurd cc

    by : (told : Reply) → MayAnswer (requests.Abort meta why locks) told
        → (fate : Fate) × (fate_shown id (record { number = number; request = requests.Abort meta why locks; reply = told; step = step }) ≡ Some fate)
    by (replies.Status view) final = let f = view-fate view final in (f.0, ap (λ b. if b then option_and_then final_fate (Some view) else None) is ∙ f.1)
    by told kind = absurd kind
abort-shows id request told number step is kind = absurd cc

pub aborted-shows : (id : TxnId) (why : Why) (h : Heard) → ShowsAborted id why h → (fate : Fate) × (fate_shown id h ≡ Some fate)
aborted-shows id why h s = by s.view s.told s.cause
  where
    by : (view : View) → view_in h.reply ≡ Some view → AbortsWith why view → (fate : Fate) × (fate_shown id h ≡ Some fate)
    by (views.Aborted epoch cause locks) told is = (fates.Aborted, ap (λ b. if b then option_and_then final_fate (view_in h.reply) else None) s.about ∙ ap (option_and_then final_fate) told)
    by view told is = absurd is

pub contains_split : {X : Type 0} (before : List X) (x : X) (later : List X) → Contains (before ++ x ∷ later) x
contains_split [] x later = contains_head x later
contains_split (y ∷ before) x later = contains_tail y (before ++ x ∷ later) x (contains_split before x later)
