-- What an actor knows once messages that it left were evaluated.
use Rattle.std.proofs.Common.{◌≡◌, ℕ, ◌<◌, ◌≤◌, nat_le, cond, find, true, false, All, Contains, List, [], ◌∷◌, ◌++◌, length, map, ◌⊎◌, inl, inr, Some, refl, sym, ap, subst, ◌∙◌, arith, length-append}
use Rattle.std.proofs.lemmas.Bool.{ltb-false, ltb-true}
use Rattle.std.proofs.lemmas.Bool.Decides.{nat_tests}
use Rattle.std.proofs.lemmas.List.{append-nil, map-append}
use Rattle.std.proofs.lemmas.List.Elements.{All-append, All-cons, All-contains, All-map, All-nil, All-push, All-weaker, Contains-append_cases, Contains-append_left, Contains-append_right, Contains-push}
use Rattle.std.specs.Cmp.{ranked}
use Rattle.std.specs.declared.cmp.Ordering.TheVariants.{Less}
use Rattle.std.specs.List.{AllByRecursion as Each}
use Rattle.std.specs.List.Sorted.{IsStrictlySortedBy}
use Rattle.std.specs.Map.{keys_of}
use Rattle.std.specs.Ordering.{nat_cmp}
use Rattle.pc_base.specs.declared.actor.ActorId.{ActorId}
use Rattle.pc_desk.specs.Desk.{DeskMeaning, HasTakenFirst, IsDesk, IsReadyToGo, Posted, WaitingMessage, posting, waiting_as}
use Rattle.pc_desk.proofs.Refusing.{given_back}
use Rattle.pc_desk.specs.OwnLog.{LogMeaning}
use Rattle.pc_desk.specs.Refused.{GivesBack}
use Rattle.pc_desk.specs.Rest.{HasOnlyLearnt, IsEvaluatedIn, IsFirstOf, StopsAt, comes_first}
use Rattle.pc_history.specs.declared.named.Named.{Ghosts}
use Rattle.pc_history.specs.declared.view.Known.{Known as KnownEntry}
use Rattle.pc_history.specs.declared.view.Part.{Part}
use Rattle.pc_history.specs.Meanings.{ActorMeaning}
use Rattle.pc_history.specs.Parts.{told, uses_left}
use Rattle.pc_lists.proofs.Lists.{all_from_contains, contains_cons, contains_head, contains_map, contains_tail}
use Rattle.pc_proto.specs.declared.event.Event.{Event}
use Rattle.pc_proto.specs.declared.reply.Reply.{Reply}
use Rattle.pc_range.specs.Cell.{IsFullAt}
use Rattle.pc_range.specs.declared.commit_world.CommitWorld.{CommitWorld}
use Rattle.pc_range.specs.declared.message.Message.{Message}
use Rattle.pc_range.specs.declared.message.ServeFault.{ServeFault}
use Rattle.pc_range.specs.Message.{IsEvalNote, evaluation}
use Rattle.pc_wire.specs.declared.verdict.Verdict.{Verdict}
use Rattle.pc_wire.specs.Outbox.{first_from}
use Rattle.pc_world.specs.Local.{Head}

-- So far these of the messages were evaluated, those are left, and the actor did nothing else.
pub record IsUnderWay (splits : List (List ℕ)) (all left : List WaitingMessage) (before now : ActorMeaning Head Event) : Type 0 where
  pub done : List WaitingMessage
  pub each : All (λ w. Contains (done ++ left) w) all
  pub from : All (Contains all) left
  pub evaluated : All (IsEvaluatedIn now.part) done
  pub ready : All (IsReadyToGo before.part.id splits) left
  pub learnt : HasOnlyLearnt before now

pub begun_leaving : (splits : List (List ℕ)) (all : List WaitingMessage) (before : ActorMeaning Head Event) → All (IsReadyToGo before.part.id splits) all → IsUnderWay splits all all before before
begun_leaving splits all before ready = record {
  done = [];
  each = all_from_contains (Contains all) all (λ w there. there);
  from = all_from_contains (Contains all) all (λ w there. there);
  evaluated = All-nil _;
  ready = ready;
  learnt = record { rest = refl; more = λ k there. there };
}

-- of those that are left, what is so of each is so of the first and of the others
module _ (P : WaitingMessage → Type 0) (left after : List WaitingMessage) (sender : ActorId) (posted : Posted) (f : IsFirstOf left after sender posted) (all : All P left) where
  abbrev it : WaitingMessage
  it = waiting_as f.key sender f.verdict posted

  of-it : P it
  of-it = All-contains P left it all (subst (λ l. Contains l it) (sym f.whole) (Contains-append_right f.front (it ∷ f.back) it (contains_head it f.back)))

  of-others : All P after
  of-others =
      subst (All P) (sym f.left)
      (all_from_contains P (f.front ++ f.back) (λ w there. All-contains P left w all (subst (λ l. Contains l w) (sym f.whole) (elim (Contains-append_cases f.front f.back w there) [
        | inl front ↦ Contains-append_left f.front (it ∷ f.back) w front
        | inr back ↦ Contains-append_right f.front (it ∷ f.back) w (contains_tail it f.back w back)
      ]))))

-- one that is left is the first, or one of the others
first_or_other : (left after : List WaitingMessage) (sender : ActorId) (posted : Posted) (f : IsFirstOf left after sender posted) (w : WaitingMessage) → Contains left w → (waiting_as f.key sender f.verdict posted ≡ w) ⊎ Contains after w
first_or_other left after sender posted f w there =
    let it = waiting_as f.key sender f.verdict posted in
    elim (Contains-append_cases f.front (it ∷ f.back) w (subst (λ l. Contains l w) f.whole there)) [
      | inl front ↦ inr (subst (λ l. Contains l w) (sym f.left) (Contains-append_left f.front f.back w front))
      | inr later ↦ elim (contains_cons it f.back w later) [ inl here ↦ inl here | inr back ↦ inr (subst (λ l. Contains l w) (sym f.left) (Contains-append_right f.front f.back w back)) ]
    ]

-- the first of those that are left may go
pub first_ready : (splits : List (List ℕ)) (all left after : List WaitingMessage) (before now : ActorMeaning Head Event) (sender : ActorId) (posted : Posted) → IsUnderWay splits all left before now → (f : IsFirstOf left after sender posted) → IsReadyToGo before.part.id splits (waiting_as f.key sender f.verdict posted)
first_ready splits all left after before now sender posted under f =
    of-it (IsReadyToGo before.part.id splits) left after sender posted f under.ready

evaluated-on : (part more : Part Event) (w : WaitingMessage) → more.id ≡ part.id → ((k : KnownEntry Event) → Contains part.known k → Contains more.known k) → IsEvaluatedIn part w → IsEvaluatedIn more w
evaluated-on part more w id has is = record {
  step = is.step;
  reply = is.reply;
  place = is.place;
  knows = subst (λ (i : ActorId). Contains more.known (record { entry = evaluation is.step w.posted.range i w.posted.number is.reply; place = is.place; uses = 0 })) (sym id) (has _ is.knows);
}

-- one more was evaluated, and the actor took the note of it
pub left_one : (splits : List (List ℕ)) (all left after : List WaitingMessage) (before now then : ActorMeaning Head Event) (sender : ActorId) (posted : Posted) (step : ℕ) (reply : Reply) (note : List (KnownEntry Event))
    → IsUnderWay splits all left before now → IsFirstOf left after sender posted → IsEvalNote sender posted.number posted.range step reply note → then ≡ record now { part = told note now.part }
    → IsUnderWay splits all after before then
left_one splits all left after before now then sender posted step reply note under f tells took =
    let w = waiting_as f.key sender f.verdict posted in
    let k : KnownEntry Event = record { entry = evaluation step posted.range sender posted.number reply; place = tells.place; uses = 0 } in
    let known : then.part.known ≡ now.part.known ++ k ∷ [] = ap (λ (a : ActorMeaning Head Event). a.part.known) took ∙ ap (λ n. now.part.known ++ n) tells.tells in
    let id : then.part.id ≡ now.part.id = ap (λ (a : ActorMeaning Head Event). a.part.id) took in
    let was : now.part.id ≡ before.part.id = ap (λ (a : ActorMeaning Head Event). a.part.id) under.learnt.rest in
    let more : (x : KnownEntry Event) → Contains now.part.known x → Contains then.part.known x = (λ x there. subst (λ l. Contains l x) (sym known) (Contains-append_left now.part.known (k ∷ []) x there)) in
    let whose : sender ≡ then.part.id = (first_ready splits all left after before now sender posted under f).whose ∙ (sym was ∙ sym id) in
    let here : Contains then.part.known k = subst (λ l. Contains l k) (sym known) (Contains-push now.part.known k) in
    record {
      done = under.done ++ w ∷ [];
      each = All-weaker (λ x. Contains (under.done ++ left) x) (λ x. Contains ((under.done ++ w ∷ []) ++ after) x) (λ x there. elim (Contains-append_cases under.done left x there) [
        | inl done ↦ Contains-append_left (under.done ++ w ∷ []) after x (Contains-append_left under.done (w ∷ []) x done)
        | inr waits ↦ elim (first_or_other left after sender posted f x waits) [
          | inl here ↦ Contains-append_left (under.done ++ w ∷ []) after x (subst (Contains (under.done ++ w ∷ [])) here (Contains-push under.done w))
          | inr other ↦ Contains-append_right (under.done ++ w ∷ []) after x other
        ]
      ]) all under.each;
      from = of-others (Contains all) left after sender posted f under.from;
      evaluated = All-push (IsEvaluatedIn then.part) under.done w (All-weaker (IsEvaluatedIn now.part) (IsEvaluatedIn then.part) (λ x. evaluated-on now.part then.part x id more) under.done under.evaluated)
          (record {
            step = step;
            reply = reply;
            place = tells.place;
            knows = subst (λ (i : ActorId). Contains then.part.known (record { entry = evaluation step posted.range i posted.number reply; place = tells.place; uses = 0 })) whose here;
          });
      ready = of-others (IsReadyToGo before.part.id splits) left after sender posted f under.ready;
      learnt = record {
        rest = took ∙ (ap (λ (a : ActorMeaning Head Event). record a { part = record a.part { known = now.part.known ++ note } }) under.learnt.rest ∙ ap (λ ks. record before { part = record before.part { known = ks } }) (sym (ap (λ (a : ActorMeaning Head Event). a.part.known) took)));
        more = λ x there. more x (under.learnt.more x there);
      };
    }

-- none is left
pub left_none : (splits : List (List ℕ)) (all left : List WaitingMessage) (before now : ActorMeaning Head Event) → left ≡ [] → IsUnderWay splits all left before now → All (IsEvaluatedIn now.part) all
left_none splits all left before now none under =
    All-weaker (λ w. Contains (under.done ++ left) w) (IsEvaluatedIn now.part)
    (λ w there. All-contains (IsEvaluatedIn now.part) under.done w under.evaluated (subst (λ l. Contains l w) (ap (λ l. under.done ++ l) none ∙ append-nil under.done) there)) all under.each

-- ---- the least number of two outboxes

head-from : (n : ℕ) (ns : List ℕ) → first_from 0 (n ∷ ns) ≡ Some n
head-from n ns = let low : nat_le 0 n ≡ true = grind (arith, nat_tests) in ap (λ b. cond b (Some n) (find (nat_le 0) ns)) low

sorted-head : {X : Type 0} (e : ℕ × X) (es : List (ℕ × X)) → IsStrictlySortedBy nat_cmp (keys_of (e ∷ es)) → All (λ (x : ℕ × X). e.0 < x.0) es
unfolding IsStrictlySortedBy
sorted-head {X} e es sorted = by es sorted.0
  where
    by : (xs : List (ℕ × X)) → Each (λ n. nat_cmp e.0 n ≡ Less) (keys_of xs) → All (λ (x : ℕ × X). e.0 < x.0) xs
    by [] each = All-nil (λ (x : ℕ × X). e.0 < x.0)
    by (x ∷ xs) each = All-cons (λ (x : ℕ × X). e.0 < x.0) x xs (ranked e.0 x.0 _ (sym each.0)) (by xs each.1)

module _ {X : Type 0} where
  abbrev numbers : List (ℕ × X) → List ℕ
  numbers es = map (λ e. e.0) es

  -- where what was set aside comes first, none has a lower number
  pub aside_least : (other aside : List (ℕ × X)) (n : ℕ) (x : X) (rest : List (ℕ × X)) → aside ≡ (n, x) ∷ rest → All (λ (e : ℕ × X). n < e.0) rest → comes_first (first_from 0 (numbers aside)) (first_from 0 (numbers other)) ≡ true
      → IsStrictlySortedBy nat_cmp (keys_of other) → All (λ (e : ℕ × X). n ≤ e.0) (other ++ rest)
  aside_least other aside n x rest is rises first sorted =
      All-append (λ (e : ℕ × X). n ≤ e.0) other rest (by other sorted (sym (ap (λ y. comes_first y (first_from 0 (numbers other))) (head-from n (numbers rest))) ∙ subst (λ es. comes_first (first_from 0 (numbers es)) (first_from 0 (numbers other)) ≡ true) is first)) (All-weaker (λ (e : ℕ × X). n < e.0) (λ (e : ℕ × X). n ≤ e.0) (λ e low. omega (arith, low)) rest rises)
    where
      by : (os : List (ℕ × X)) → IsStrictlySortedBy nat_cmp (keys_of os) → comes_first (Some n) (first_from 0 (numbers os)) ≡ true → All (λ (e : ℕ × X). n ≤ e.0) os
      by [] sorted first = All-nil (λ (e : ℕ × X). n ≤ e.0)
      by (o ∷ os) sorted first =
          let low : n < o.0 = ltb-true n o.0 (sym (ap (comes_first (Some n)) (head-from o.0 (numbers os))) ∙ first) in
          All-cons (λ (e : ℕ × X). n ≤ e.0) o os (omega (arith, low)) (All-weaker (λ (e : ℕ × X). o.0 < e.0) (λ (e : ℕ × X). n ≤ e.0) (λ e above. omega (arith, low, above)) os (sorted-head o os sorted))

  -- so where it does not
  pub other_least : (other aside : List (ℕ × X)) (n : ℕ) (x : X) (rest : List (ℕ × X)) → other ≡ (n, x) ∷ rest → All (λ (e : ℕ × X). n < e.0) rest → comes_first (first_from 0 (numbers aside)) (first_from 0 (numbers other)) ≡ false
      → IsStrictlySortedBy nat_cmp (keys_of aside) → All (λ (e : ℕ × X). n ≤ e.0) (rest ++ aside)
  other_least other aside n x rest is rises first sorted =
      All-append (λ (e : ℕ × X). n ≤ e.0) rest aside (All-weaker (λ (e : ℕ × X). n < e.0) (λ (e : ℕ × X). n ≤ e.0) (λ e low. omega (arith, low)) rest rises) (by aside sorted (sym (ap (comes_first (first_from 0 (numbers aside))) (head-from n (numbers rest))) ∙ subst (λ es. comes_first (first_from 0 (numbers aside)) (first_from 0 (numbers es)) ≡ false) is first))
    where
      by : (more : List (ℕ × X)) → IsStrictlySortedBy nat_cmp (keys_of more) → comes_first (first_from 0 (numbers more)) (Some n) ≡ false → All (λ (e : ℕ × X). n ≤ e.0) more
      by [] sorted first = All-nil (λ (e : ℕ × X). n ≤ e.0)
      by (a ∷ more) sorted first =
          let low : n ≤ a.0 = ltb-false a.0 n (sym (ap (λ y. comes_first y (Some n)) (head-from a.0 (numbers more))) ∙ first) in
          All-cons (λ (e : ℕ × X). n ≤ e.0) a more low (All-weaker (λ (e : ℕ × X). a.0 < e.0) (λ (e : ℕ × X). n ≤ e.0) (λ e above. omega (arith, low, above)) more (sorted-head a more sorted))

  -- where none waits and none comes first, none was set aside
  pub none_aside : (other aside : List (ℕ × X)) → other ≡ [] → comes_first (first_from 0 (numbers aside)) (first_from 0 (numbers other)) ≡ false → aside ≡ []
  none_aside other [] none first = refl
  none_aside other (a ∷ more) none first = absurd (let e : true ≡ false = sym (ap (λ es. comes_first (Some a.0) (first_from 0 (numbers es))) none) ∙ (sym (ap (λ y. comes_first y (first_from 0 (numbers other))) (head-from a.0 (numbers more))) ∙ first) in cc)

-- what waits in both may go
pub left_ready : {C Y : Type 0} (splits : List (List ℕ)) (log : LogMeaning C) (left : List WaitingMessage) (g : Y → WaitingMessage) (waits aside : List Y) → left ≡ map g (waits ++ aside) → IsDesk splits log (map g waits) → IsDesk splits log (map g aside) → All (IsReadyToGo log.part.id log.head.splits) left
left_ready splits log left g waits aside is one other =
    subst (All (IsReadyToGo log.part.id log.head.splits)) (sym (is ∙ map-append g waits aside)) (All-append (IsReadyToGo log.part.id log.head.splits) (map g waits) (map g aside) one.ready other.ready)

-- one fewer is left
pub fewer_left : (left after : List WaitingMessage) (sender : ActorId) (posted : Posted) → IsFirstOf left after sender posted → length after < length left
fewer_left left after sender posted f =
    let it = waiting_as f.key sender f.verdict posted in
    omega (arith, ap length f.whole, ap length f.left, length-append f.front (it ∷ f.back), length-append f.front f.back)

-- one of what waits was taken, and none of the others has a lower number
pub first_of_rest : {Y : Type 0} (v : List WaitingMessage) (g : Y → WaitingMessage) (ws front back : List Y) (y : Y) (key : ℕ) (sender : ActorId) (verdict : Verdict) (posted : Posted) → map g ws ≡ v → ws ≡ front ++ y ∷ back → g y ≡ waiting_as key sender verdict posted
    → All (λ (e : Y). key ≤ (g e).key) (front ++ back) → IsFirstOf v (map g (front ++ back)) sender posted
first_of_rest v g ws front back y key sender verdict posted same whole is least = record {
  key = key;
  verdict = verdict;
  front = map g front;
  back = map g back;
  whole = sym same ∙ (ap (map g) whole ∙ (map-append g front (y ∷ back) ∙ ap (λ w. map g front ++ w ∷ map g back) is));
  left = map-append g front back;
  least = All-map (λ (w : WaitingMessage). key ≤ w.key) g (front ++ back) least;
}

-- the first of those that are left was refused
pub stopped_at : {N : Type 0} {G : Ghosts N CommitWorld} (splits : List (List ℕ)) (limit : ℕ) (all left after : List WaitingMessage) (before now : ActorMeaning Head Event) (msg : Message N G) (fault : ServeFault N G)
    → IsUnderWay splits all left before now → IsFirstOf left after msg.sender (posting msg.number msg.range msg.request (uses_left msg.note.known)) → IsFullAt msg.range limit msg fault → StopsAt limit all now.part fault
stopped_at splits limit all left after before now msg fault under f full =
    let posted = posting msg.number msg.range msg.request (uses_left msg.note.known) in
    let it = waiting_as f.key msg.sender f.verdict posted in
    let was : now.part.id ≡ before.part.id = ap (λ (a : ActorMeaning Head Event). a.part.id) under.learnt.rest in
    record {
      done = under.done;
      refused = it;
      behind = after;
      each = All-weaker (λ x. Contains (under.done ++ left) x) (λ x. Contains (under.done ++ it ∷ after) x) (λ x there. elim (Contains-append_cases under.done left x there) [
        | inl done ↦ Contains-append_left under.done (it ∷ after) x done
        | inr waits ↦ Contains-append_right under.done (it ∷ after) x (elim (first_or_other left after msg.sender posted f x waits) [
          | inl here ↦ subst (Contains (it ∷ after)) here (contains_head it after)
          | inr other ↦ contains_tail it after x other
        ])
      ]) all under.each;
      there = of-it (Contains all) left after msg.sender posted f under.from;
      evaluated = under.evaluated;
      rises = f.least;
      gives = subst (λ i. GivesBack limit i posted fault) ((first_ready splits all left after before now msg.sender posted under f).whose ∙ sym was) (given_back limit msg fault full);
    }

-- the first of the outbox was taken from it
pub taken_first : {C Y : Type 0} (v old : DeskMeaning C) (splits : List (List ℕ)) (g : Y → WaitingMessage) (ws rest : List Y) (y : Y) → v ≡ old → v.posted ≡ map (λ x. (g x).posted) ws → ws ≡ y ∷ rest → IsDesk splits v.log (map g ws) → All (λ z. (g y).key < (g z).key) rest
    → HasTakenFirst old (record v { posted = map (λ x. (g x).posted) rest }) (g y).posted
taken_first {C} {Y} v old splits g ws rest y same posted whole desk rises = record {
  first = ap (λ (d : DeskMeaning C). d.posted) (sym same) ∙ (posted ∙ ap (map (λ x. (g x).posted)) whole);
  rest = ap (λ (d : DeskMeaning C). record d { posted = map (λ x. (g x).posted) rest }) same;
  later = All-map (λ (p : Posted). (g y).posted.number < p.number) (λ x. (g x).posted) rest (all_from_contains (λ z. (g y).posted.number < (g z).posted.number) rest (λ z there.
      let below : (g y).key < (g z).key = All-contains (λ x. (g y).key < (g x).key) rest z rises there in
      omega (arith, key-is y (subst (λ l. Contains l y) (sym whole) (contains_head y rest)), key-is z (subst (λ l. Contains l z) (sym whole) (contains_tail y rest z there)))));
}
  where
    key-is : (x : Y) → Contains ws x → (g x).key ≡ (g x).posted.number
    key-is x there = (All-contains (IsReadyToGo v.log.part.id v.log.head.splits) (map g ws) (g x) desk.ready (contains_map g ws x there)).numbered
