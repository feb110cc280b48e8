-- The messages of a wave with the one of which nothing is heard to be sent again, or without it.
use Rattle.std.proofs.Common.{◌≡◌, ℕ, ◌+◌, ◌≤◌, nat_lt, zero, suc, ◌<◌, Bool, true, false, cond, not, ◌&&◌, ◌||◌, ◌⊎◌, inl, inr, length, is_some, position, List, [], ◌∷◌, ◌++◌, map, None, option_to_list, refl, sym, ap, ◌∙◌, subst, arith, All, Any}
use Rattle.std.specs.List.{after_first, before_first, list_any, position_or_len}
use Rattle.std.proofs.lemmas.Bool.{ltb-false}
use Rattle.std.proofs.lemmas.Grind.{common_steps}
use Rattle.std.proofs.lemmas.List.Elements.{All-cons, All-head, All-nil, All-tail, All-weaker}
use Rattle.pc_call.proofs.Lists.{all_behind, kept_by}
use Rattle.pc_call.specs.Beside.{is_query}
use Rattle.pc_call.specs.declared.purpose.Purpose.{Purpose}
use Rattle.pc_call.specs.declared.purpose.Purpose.TheVariants as purposes
use Rattle.pc_call.specs.Losses.{is_late_out, stages_late, wave_lost}
use Rattle.pc_call.specs.Met.{AreMetBy}
use Rattle.pc_call.specs.Serving.{IsAnswerTo, IsOpenFor, MetNoOtherWrite, SendsAgain, holder_met, holders_met}
use Rattle.pc_flight.specs.declared.write.WriteInFlight.{WriteInFlight}
use Rattle.pc_lists.proofs.Anywhere.{any_head, any_later}
use Rattle.pc_proto.specs.declared.call.Call.{Call}
use Rattle.pc_proto.specs.declared.call.Call.TheVariants as calls
use Rattle.pc_proto.specs.declared.request.Request.{Request}
use Rattle.pc_proto.specs.declared.request.Request.TheVariants as requests
use Rattle.pc_proto.specs.Requests.{is_stage}
use Rattle.pc_reads.specs.Replies.{unrefreshed_in}
use Rattle.pc_txn.specs.declared.txn.OpenTxn.{OpenTxn}
use Rattle.pc_wave.specs.declared.message.Message.{Message}
use Rattle.pc_wave.specs.declared.message.Progress.{Progress}
use Rattle.pc_wave.specs.declared.message.Progress.TheVariants as progresses
use Rattle.pc_wave.specs.Messages.{awaits_at, first_changed, lost_of, one_lost_more, progress_awaits, progress_has_answer, progress_in_conflict, progress_to_send, wave_awaits}
use Rattle.pc_wave.specs.Standing.{AreOfTwo, Pairwise}
use Rattle.pc_world.specs.Known.{Known}
use Rattle.pc_world.specs.Known.Traffic.{Heard, Sent}
use Rattle.pc_world.specs.Known.Transactions.{Txn}
use Rattle.pc_world.specs.SameRequest.{IsSameRequest}
use Rattle.pc_call.proofs.Facts.{unsent_goes}

-- The message whose reply is waited for is neither to be sent nor answered, and met no intent.
pub record IsOutNow (p : Progress) : Type 0 where
  pub to_send : progress_to_send p ≡ false
  pub answered : progress_has_answer p ≡ false
  pub met : progress_in_conflict p ≡ false
  pub holder : holder_met p ≡ None
  pub unrefreshed : unrefreshed_in p ≡ None

pub out_now : (number : ℕ) (p : Progress) → progress_awaits number p ≡ true → IsOutNow p
out_now number (progresses.Sent at) waits = record { to_send = refl; answered = refl; met = refl; holder = refl; unrefreshed = refl }
out_now number p waits = absurd cc

pub left_true : (b : Bool) → (b || false) ≡ true → b ≡ true
left_true true is = refl
left_true false is = is

module _ {X : Type 0} (test : X → Bool) where
  nowhere : (xs : List X) → All (λ x. test x ≡ false) xs → length xs ≤ position_or_len test xs
  nowhere [] a = grind arith
  nowhere (x ∷ xs) a = let fails = All-head (λ x. test x ≡ false) x xs a in grind (arith, common_steps, fails, nowhere xs (All-tail (λ x. test x ≡ false) x xs a))

  pub not_there : (xs : List X) → All (λ x. test x ≡ false) xs → position test xs ≡ None
  not_there xs a = let past = nowhere xs a in grind (arith, common_steps, past)

  within : (xs : List X) (x : X) → test x ≡ true → position_or_len test (xs ++ x ∷ []) < length (xs ++ x ∷ [])
  within [] x is = grind (arith, common_steps, is)
  within (y ∷ xs) x is = grind (arith, common_steps, within xs x is)

  found_last : (xs : List X) (x : X) → test x ≡ true → is_some (position test (xs ++ x ∷ [])) ≡ true
  found_last xs x is = let low = within xs x is in grind (arith, common_steps, low)

  only_last : (xs : List X) (x : X) → All (λ x. test x ≡ false) xs → test x ≡ true → before_first test (xs ++ x ∷ []) ++ after_first test (xs ++ x ∷ []) ≡ xs
  only_last [] x a is = grind (arith, common_steps, is)
  only_last (y ∷ xs) x a is = let fails = All-head (λ x. test x ≡ false) y xs a in grind (arith, common_steps, fails, only_last xs x (All-tail (λ x. test x ≡ false) y xs a) is)

pub live_of : (b : Bool) → not b ≡ false → b ≡ true
live_of true is = refl
live_of false is = absurd cc

pub late_of : (b : Bool) → not b ≡ true → b ≡ false
late_of true is = absurd cc
late_of false is = refl

pub all_mapped : (P : Request → Type 0) (ms : List Message) → All (λ m. P m.request) ms → All P (map (λ m. m.request) ms)
all_mapped P [] a = All-nil P
all_mapped P (m ∷ ms) a = All-cons P m.request (map (λ m. m.request) ms) (All-head (λ m. P m.request) m ms a) (all_mapped P ms (All-tail (λ m. P m.request) m ms a))

pub map_front : (P : Request → Type 0) (ps : List Message) (m : Message) → All P (map (λ m. m.request) (ps ++ m ∷ [])) → All P (map (λ m. m.request) ps)
map_front P [] m a = All-nil P
map_front P (y ∷ ps) m a =
    All-cons P y.request (map (λ m. m.request) ps) (All-head P y.request (map (λ m. m.request) (ps ++ m ∷ [])) a) (map_front P ps m (All-tail P y.request (map (λ m. m.request) (ps ++ m ∷ [])) a))

pub any_parts : (P : Request → Type 0) (ps : List Message) (m : Message) → Any P (map (λ m. m.request) (ps ++ m ∷ [])) → Any P (map (λ m. m.request) ps) ⊎ P m.request
any_parts P [] m (zero, r, low, is, there) = inr (subst P (sym is) there)
any_parts P [] m (suc i, r, low, is, there) = absurd (omega (arith, low))
any_parts P (y ∷ ps) m (zero, r, low, is, there) = inl (any_head P y.request (map (λ m. m.request) ps) (subst P (sym is) there))
any_parts P (y ∷ ps) m (suc i, r, low, is, there) =
    elim (any_parts P ps m (i, r, omega arith, is, there)) [ inl some ↦ inl (any_later P y.request (map (λ m. m.request) ps) some) | inr last ↦ inr last ]

pub last_two : (ps : List Message) (m : Message) → Pairwise AreOfTwo (ps ++ m ∷ []) → All (λ y. AreOfTwo y m) ps
last_two [] m two = All-nil (λ y. AreOfTwo y m)
last_two (y ∷ ps) m two =
    All-cons (λ y. AreOfTwo y m) y ps (All-head (AreOfTwo y) m [] (all_behind (AreOfTwo y) ps (m ∷ []) two.0)) (last_two ps m two.1)

-- what is of one request with a stage is no query
pub stage_unasked : (r q : Request) → is_stage r ≡ true → IsSameRequest r q → is_query q ≡ false
stage_unasked (requests.Stage meta ts now writes locks) q stage (inl e) = ap is_query (sym e)
stage_unasked (requests.Stage meta ts now writes locks) q stage (inr put) = absurd put
stage_unasked r q none same = absurd cc

module _ (x : OpenTxn) (number tries : ℕ) (some : 1 ≤ tries) where
  -- The messages with the one of this number to be sent again.
  abbrev pub anew : List Message → List Message
  anew ms = first_changed (awaits_at number) (lost_of tries) ms

  pub one_more : (lost : ℕ) → 1 ≤ one_lost_more tries lost
  one_more lost = by (nat_lt lost tries) refl
    where
      by : (b : Bool) → nat_lt lost tries ≡ b → 1 ≤ cond b (lost + 1) lost
      by true is = omega arith
      by false is = let h : tries ≤ lost = ltb-false lost tries is in omega (arith, h, some)

  pub same_requests : (ms : List Message) → map (λ m. m.request) (anew ms) ≡ map (λ m. m.request) ms
  same_requests ms = kept_by (awaits_at number) (lost_of tries) (λ m. m.request) ms (λ m. refl)

  pub holders_same : (ms : List Message) → holders_met (anew ms) ≡ holders_met ms
  holders_same [] = refl
  holders_same (y ∷ ys) = by (awaits_at number y) refl (holders_same ys)
    where
      by : (b : Bool) → awaits_at number y ≡ b → holders_met (anew ys) ≡ holders_met ys → holders_met (cond b (lost_of tries y ∷ ys) (y ∷ anew ys)) ≡ holders_met (y ∷ ys)
      by true is later = ap (λ o. option_to_list o ++ holders_met ys) (sym (out_now number y.progress is).holder)
      by false is later = ap (λ hs. option_to_list (holder_met y.progress) ++ hs) later

  pub all_anew : (P : Message → Type 0) → ((y : Message) → awaits_at number y ≡ true → P y → P (lost_of tries y)) → (ms : List Message) → All P ms → All P (anew ms)
  all_anew P on [] a = All-nil P
  all_anew P on (y ∷ ys) a = by (awaits_at number y) refl (all_anew P on ys (All-tail P y ys a))
    where
      by : (b : Bool) → awaits_at number y ≡ b → All P (anew ys) → All P (cond b (lost_of tries y ∷ ys) (y ∷ anew ys))
      by true is later = All-cons P (lost_of tries y) ys (on y is (All-head P y ys a)) (All-tail P y ys a)
      by false is later = All-cons P y (anew ys) (All-head P y ys a) later

  pub all_back : (P : Request → Type 0) (ms : List Message) → All (λ m. P m.request) (anew ms) → All (λ m. P m.request) ms
  all_back P [] a = All-nil (λ m. P m.request)
  all_back P (y ∷ ys) a = by (awaits_at number y) (λ later. all_back P ys later) a
    where
      by : (b : Bool) → (All (λ m. P m.request) (anew ys) → All (λ m. P m.request) ys) → All (λ m. P m.request) (cond b (lost_of tries y ∷ ys) (y ∷ anew ys)) → All (λ m. P m.request) (y ∷ ys)
      by true on a = All-cons (λ m. P m.request) y ys (All-head (λ m. P m.request) (lost_of tries y) ys a) (All-tail (λ m. P m.request) (lost_of tries y) ys a)
      by false on a = All-cons (λ m. P m.request) y ys (All-head (λ m. P m.request) y (anew ys) a) (on (All-tail (λ m. P m.request) y (anew ys) a))

  -- a write's message is sent for it still
  pub open_anew : (f : WriteInFlight) (ms : List Message) → Any (IsOpenFor f) ms → Any (IsOpenFor f) (anew ms)
  open_anew f [] (i, y, low, is, there) = absurd (omega (arith, low))
  open_anew f (y ∷ ys) (zero, z, low, is, there) = by (awaits_at number y)
    where
      here : IsOpenFor f y
      here = subst (IsOpenFor f) (sym is) there

      by : (b : Bool) → Any (IsOpenFor f) (cond b (lost_of tries y ∷ ys) (y ∷ anew ys))
      by true = any_head (IsOpenFor f) (lost_of tries y) ys (here.0, refl)
      by false = any_head (IsOpenFor f) y (anew ys) here
  open_anew f (y ∷ ys) (suc i, z, low, is, there) = by (awaits_at number y) (open_anew f ys (i, z, omega arith, is, there))
    where
      by : (b : Bool) → Any (IsOpenFor f) (anew ys) → Any (IsOpenFor f) (cond b (lost_of tries y ∷ ys) (y ∷ anew ys))
      by true later = any_later (IsOpenFor f) (lost_of tries y) ys (i, z, omega arith, is, there)
      by false later = any_later (IsOpenFor f) y (anew ys) later

  -- what a refresh met is shown by its message still, which was answered
  answer_anew : (h : Heard) (ms : List Message) → Any (IsAnswerTo h) ms → MetNoOtherWrite (anew ms) h
  answer_anew h [] (i, y, low, is, there) = absurd (omega (arith, low))
  answer_anew h (y ∷ ys) (zero, z, low, is, there) = by (awaits_at number y) refl
    where
      here : IsAnswerTo h y
      here = subst (IsAnswerTo h) (sym is) there

      by : (b : Bool) → awaits_at number y ≡ b → MetNoOtherWrite (cond b (lost_of tries y ∷ ys) (y ∷ anew ys)) h
      by true waits = inl (sym here.met ∙ (out_now number y.progress waits).unrefreshed)
      by false other = inr (any_head (IsAnswerTo h) y (anew ys) here)
  answer_anew h (y ∷ ys) (suc i, z, low, is, there) = by (awaits_at number y) (answer_anew h ys (i, z, omega arith, is, there))
    where
      by : (b : Bool) → MetNoOtherWrite (anew ys) h → MetNoOtherWrite (cond b (lost_of tries y ∷ ys) (y ∷ anew ys)) h
      by true later = inr (any_later (IsAnswerTo h) (lost_of tries y) ys (i, z, omega arith, is, there))
      by false (inl none) = inl none
      by false (inr some) = inr (any_later (IsAnswerTo h) y (anew ys) some)

  pub held_anew : (ms : List Message) (h : Heard) → MetNoOtherWrite ms h → MetNoOtherWrite (anew ms) h
  held_anew ms h (inl none) = inl none
  held_anew ms h (inr some) = answer_anew h ms some

  pub again_anew : (call : Call) (all : Bool) (k : Known) (t : Txn) (y : Message) → awaits_at number y ≡ true → SendsAgain call all k t x y → SendsAgain call all k t x (lost_of tries y)
  again_anew call all k t y waits own =
      let out = out_now number y.progress waits in
      record {
        w = own.w;
        waits = own.waits;
        before = own.before;
        anchor = own.anchor;
        anchored = own.anchored;
        ts = own.ts;
        said = own.said;
        low = own.low;
        goes_at = elim own.goes_at [ inl next ↦ (let f : true ≡ false = sym (unsent_goes y next.0) ∙ out.to_send in absurd cc) | inr asked ↦ inr (asked.0, λ to_send none. let low = one_more y.lost in absurd (omega (arith, low, none))) ];
        there = λ none. own.there out.answered;
      }

  pub met_anew : (ms : List Message) (hs : List Heard) → AreMetBy ms hs → AreMetBy (anew ms) hs
  met_anew [] hs met = met
  met_anew (y ∷ ys) [] met = by (awaits_at number y) (met_anew ys [] met.1)
    where
      by : (b : Bool) → AreMetBy (anew ys) [] → AreMetBy (cond b (lost_of tries y ∷ ys) (y ∷ anew ys)) []
      by true later = (refl, met.1)
      by false later = (met.0, later)
  met_anew (y ∷ ys) (h ∷ hs) (inl (met, rest)) = by (awaits_at number y) refl (met_anew ys hs rest)
    where
      by : (b : Bool) → awaits_at number y ≡ b → AreMetBy (anew ys) hs → AreMetBy (cond b (lost_of tries y ∷ ys) (y ∷ anew ys)) (h ∷ hs)
      by true is later = let f : false ≡ true = sym (out_now number y.progress is).met ∙ ap progress_in_conflict met.progress in absurd cc
      by false is later = inl (met, later)
  met_anew (y ∷ ys) (h ∷ hs) (inr (none, rest)) = by (awaits_at number y) (met_anew ys (h ∷ hs) rest)
    where
      by : (b : Bool) → AreMetBy (anew ys) (h ∷ hs) → AreMetBy (cond b (lost_of tries y ∷ ys) (y ∷ anew ys)) (h ∷ hs)
      by true later = inr (refl, rest)
      by false later = inr (none, later)

  pub anew_front : (ps ss : List Message) → list_any (awaits_at number) ps ≡ true → anew (ps ++ ss) ≡ anew ps ++ ss
  anew_front [] ss waits = absurd cc
  anew_front (y ∷ ps) ss waits = by (awaits_at number y) (λ w. anew_front ps ss w) waits
    where
      by : (b : Bool) → (list_any (awaits_at number) ps ≡ true → anew (ps ++ ss) ≡ anew ps ++ ss) → (b || list_any (awaits_at number) ps) ≡ true
          → cond b (lost_of tries y ∷ ps ++ ss) (y ∷ anew (ps ++ ss)) ≡ cond b (lost_of tries y ∷ ps) (y ∷ anew ps) ++ ss
      by true on w = refl
      by false on w = ap (λ l. y ∷ l) (on w)

  pub anew_behind : (ps ss : List Message) → list_any (awaits_at number) ps ≡ false → anew (ps ++ ss) ≡ ps ++ anew ss
  anew_behind [] ss none = refl
  anew_behind (y ∷ ps) ss none = by (awaits_at number y) (λ w. anew_behind ps ss w) none
    where
      by : (b : Bool) → (list_any (awaits_at number) ps ≡ false → anew (ps ++ ss) ≡ ps ++ anew ss) → (b || list_any (awaits_at number) ps) ≡ false
          → cond b (lost_of tries y ∷ ps ++ ss) (y ∷ anew (ps ++ ss)) ≡ y ∷ ps ++ anew ss
      by true on w = absurd cc
      by false on w = ap (λ l. y ∷ l) (on w)

  pub waits_behind : (ps ss : List Message) → list_any (awaits_at number) ps ≡ false → wave_awaits number (ps ++ ss) ≡ true → wave_awaits number ss ≡ true
  waits_behind [] ss none waits = waits
  waits_behind (y ∷ ps) ss none waits = by (awaits_at number y) (λ left w. waits_behind ps ss left w) none waits
    where
      by : (b : Bool) → (list_any (awaits_at number) ps ≡ false → wave_awaits number (ps ++ ss) ≡ true → wave_awaits number ss ≡ true) → (b || list_any (awaits_at number) ps) ≡ false → (b || wave_awaits number (ps ++ ss)) ≡ true → wave_awaits number ss ≡ true
      by true on left w = absurd cc
      by false on left w = on left w

  pub only_anew : (ms : List Message) (m : Message) → ms ≡ m ∷ [] → wave_awaits number ms ≡ true → (awaits_at number m ≡ true) × (anew ms ≡ lost_of tries m ∷ [])
  only_anew ms m one waited =
      let waits : awaits_at number m ≡ true = left_true (awaits_at number m) (subst (λ ms. wave_awaits number ms ≡ true) one waited) in
      (waits, ap anew one ∙ ap (λ b. cond b (lost_of tries m ∷ []) (m ∷ [])) waits)

  -- where no stage that is late is lost, the message is to be sent again
  none_late : (ms : List Message) → All (λ m. awaits_at number m ≡ true → stages_late x m.request ≡ false) ms → All (λ m. is_late_out number x m ≡ false) ms
  none_late ms a = All-weaker (λ m. awaits_at number m ≡ true → stages_late x m.request ≡ false) (λ m. is_late_out number x m ≡ false) (λ m not. by (awaits_at number m) not) ms a
    where
      by : {l : Bool} → (b : Bool) → (b ≡ true → l ≡ false) → (b && l) ≡ false
      by true not = not refl
      by false not = refl

  pub is_anew : (ms : List Message) → All (λ m. awaits_at number m ≡ true → stages_late x m.request ≡ false) ms → wave_lost number tries x ms ≡ anew ms
  is_anew ms a =
      ap (λ o. cond (is_some o) (before_first (is_late_out number x) ms ++ after_first (is_late_out number x) ms) (anew ms)) (not_there (is_late_out number x) ms (none_late ms a))

  -- one that is late leaves
  pub late_leaves : (ps : List Message) (m : Message) → All (λ p. awaits_at number p ≡ false) ps → awaits_at number m ≡ true → stages_late x m.request ≡ true → wave_lost number tries x (ps ++ m ∷ []) ≡ ps
  late_leaves ps m none waits late =
      let is : is_late_out number x m ≡ true = ap (λ b. b && stages_late x m.request) waits ∙ late in
      let not : All (λ p. is_late_out number x p ≡ false) ps = All-weaker (λ p. awaits_at number p ≡ false) (λ p. is_late_out number x p ≡ false) (λ p no. ap (λ b. b && stages_late x p.request) no) ps none in
      ap (λ b. cond b (before_first (is_late_out number x) (ps ++ m ∷ []) ++ after_first (is_late_out number x) (ps ++ m ∷ [])) (anew (ps ++ m ∷ []))) (found_last (is_late_out number x) ps m is)
      ∙ only_last (is_late_out number x) ps m not is

  pub holders_front : (ps : List Message) (m : Message) → awaits_at number m ≡ true → holders_met (ps ++ m ∷ []) ≡ holders_met ps
  holders_front [] m waits = ap (λ o. option_to_list o ++ []) (out_now number m.progress waits).holder
  holders_front (y ∷ ps) m waits = ap (λ hs. option_to_list (holder_met y.progress) ++ hs) (holders_front ps m waits)
