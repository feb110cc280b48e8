-- What is in flight stays what the session knows to be sent and not proved.
use Rattle.std.proofs.Common.{◌≡◌, ℕ, ◌+◌, ◌<◌, ◌≤◌, max, fold, All, true, false, Bool, ◌&&◌, ◌||◌, ◌==◌, cond, not, List, [], ◌∷◌, ◌++◌, map, filter, IsTrue, Contains, Option, Some, Result, Ok, Err, IfOk, inl, inr, length, refl, sym, ap, ◌∙◌, subst, arith}
use Rattle.std.proofs.lemmas.List.Elements.{All-append, All-cons, All-head, All-nil, All-tail, All-weaker}
use Rattle.std.specs.List.{list_any}
use Rattle.std.proofs.lemmas.Bool.{eq-eqb}
use Rattle.pc_base.specs.declared.memory.NoMemory.{NoMemory}
use Rattle.pc_base.specs.declared.transaction.TxnId.{TxnId}
use Rattle.pc_base.specs.declared.span.Span.{Span}
use Rattle.pc_base.specs.Span.{contains, same_key}
use Rattle.pc_base.specs.Transaction.{same_txn}
use Rattle.pc_lists.proofs.Anywhere.{any_behind, any_head, any_weaker}
use Rattle.pc_lists.proofs.Same.{same_txn-self}
use Rattle.pc_lists.proofs.Lists.{contains_cons, contains_head, contains_nil, contains_tail}
use Rattle.pc_flight.specs.declared.write.WriteInFlight.{WriteInFlight}
use Rattle.pc_flight.specs.InFlight.{AreInFlight, FlightStands, HasLandedBy, HasNoSeq, ShowsStanding, in_flight_as, is_another, listed_in_flight}
use Rattle.pc_flight.specs.Laws.{FlightsHold, IsKnownUnproved}
use Rattle.pc_proto.specs.declared.meta.TxnMeta.{TxnMeta}
use Rattle.pc_proto.specs.declared.request.Request.{Request}
use Rattle.pc_proto.specs.declared.request.Request.TheVariants as requests
use Rattle.pc_world.specs.Known.Traffic.{Heard, Sent}
use Rattle.pc_world.specs.Known.Transactions.{Txn, raised_to, txn_heard, txn_sent}
use Rattle.pc_world.specs.Known.Writes.{IsProvedBy, Write, asked_again, is_proved, last_seq_of, listed_as, proved_at, unproved, with_put, writes_replied, writes_sent}

-- The write, where it is not proved, in front of the others.
abbrev front_if : Bool → WriteInFlight → List WriteInFlight → List WriteInFlight
front_if b w ws = cond b (w ∷ ws) ws

map_cond : (b : Bool) (w : Write) (ws : List Write) → map in_flight_as (cond b (w ∷ ws) ws) ≡ front_if b (in_flight_as w) (map in_flight_as ws)
map_cond true w ws = refl
map_cond false w ws = refl

-- What is in flight, write by write.
flight_cons : (w : Write) (ws : List Write) → map in_flight_as (unproved (w ∷ ws)) ≡ front_if (not (is_proved w)) (in_flight_as w) (map in_flight_as (unproved ws))
flight_cons w ws = map_cond (not (is_proved w)) w (unproved ws)

-- ---- a write that is proved leaves

module _ (key : List ℕ) (seq ts : ℕ) where
  -- It is the write of this key and sequence.
  abbrev hit : Write → Bool
  hit w = w.seq == seq && same_key w.key key

  abbrev Step : Bool → Bool → Write → List WriteInFlight → Type 0
  Step b p w rest =
      front_if (not (is_proved (cond b (record w { proofs = w.proofs ++ ts ∷ [] }) w))) (in_flight_as (cond b (record w { proofs = w.proofs ++ ts ∷ [] }) w)) (filter (is_another key seq) rest)
      ≡ filter (is_another key seq) (front_if (not p) (in_flight_as w) rest)

  more_proved : (proofs : List ℕ) → list_any (λ ts. true) (proofs ++ ts ∷ []) ≡ true
  more_proved [] = refl
  more_proved (p ∷ ps) = refl

  filter_drop : (f : WriteInFlight) (rest : List WriteInFlight) → is_another key seq f ≡ false → filter (is_another key seq) (f ∷ rest) ≡ filter (is_another key seq) rest
  filter_drop f rest h = ap (λ b. cond b (f ∷ filter (is_another key seq) rest) (filter (is_another key seq) rest)) h

  filter_keep : (f : WriteInFlight) (rest : List WriteInFlight) → is_another key seq f ≡ true → filter (is_another key seq) (f ∷ rest) ≡ f ∷ filter (is_another key seq) rest
  filter_keep f rest h = ap (λ b. cond b (f ∷ filter (is_another key seq) rest) (filter (is_another key seq) rest)) h

  step : (b p : Bool) (w : Write) (rest : List WriteInFlight) → hit w ≡ b → is_proved w ≡ p → Step b p w rest
  step true true w rest at was = ap (λ b. front_if (not b) (in_flight_as (record w { proofs = w.proofs ++ ts ∷ [] })) (filter (is_another key seq) rest)) (more_proved w.proofs)
  step true false w rest at was =
      ap (λ b. front_if (not b) (in_flight_as (record w { proofs = w.proofs ++ ts ∷ [] })) (filter (is_another key seq) rest)) (more_proved w.proofs)
      ∙ sym (filter_drop (in_flight_as w) rest (ap not at))
  step false true w rest at was = ap (λ b. front_if (not b) (in_flight_as w) (filter (is_another key seq) rest)) was
  step false false w rest at was =
      ap (λ b. front_if (not b) (in_flight_as w) (filter (is_another key seq) rest)) was
      ∙ sym (filter_keep (in_flight_as w) rest (ap not at))

  proved_flight : (ws : List Write) → map in_flight_as (unproved (map (proved_at key seq ts) ws)) ≡ filter (is_another key seq) (map in_flight_as (unproved ws))
  proved_flight [] = refl
  proved_flight (w ∷ ws) =
      flight_cons (proved_at key seq ts w) (map (proved_at key seq ts) ws)
      ∙ ap (λ rest. front_if (not (is_proved (proved_at key seq ts w))) (in_flight_as (proved_at key seq ts w)) rest) (proved_flight ws)
      ∙ step (hit w) (is_proved w) w (map in_flight_as (unproved ws)) refl refl
      ∙ ap (filter (is_another key seq)) (sym (flight_cons w ws))

  pub proved_holds : (old new : List WriteInFlight) → new ≡ filter (is_another key seq) old → (writes : List Write) → AreInFlight old writes → AreInFlight new (map (proved_at key seq ts) writes)
  proved_holds old new made writes are = made ∙ ap (filter (is_another key seq)) are ∙ sym (proved_flight writes)

-- ---- a write that is sent again stays

module _ (seq ts : ℕ) where
  again_same : (b : Bool) (w : Write) → let x : Write = cond b (record w { asked = w.asked ++ ts ∷ [] }) w in (rest : List WriteInFlight) → front_if (not (is_proved x)) (in_flight_as x) rest ≡ front_if (not (is_proved w)) (in_flight_as w) rest
  again_same true w rest = refl
  again_same false w rest = refl

  again_flight : (ws : List Write) → map in_flight_as (unproved (map (asked_again seq ts) ws)) ≡ map in_flight_as (unproved ws)
  again_flight [] = refl
  again_flight (w ∷ ws) =
      flight_cons (asked_again seq ts w) (map (asked_again seq ts) ws)
      ∙ ap (λ rest. front_if (not (is_proved (asked_again seq ts w))) (in_flight_as (asked_again seq ts w)) rest) (again_flight ws)
      ∙ again_same (w.seq == seq) w (map in_flight_as (unproved ws))
      ∙ sym (flight_cons w ws)

-- ---- what is staged, and what may be sent again

listed_each : (ws : List Write) → listed_in_flight (map in_flight_as ws) ≡ listed_as ws
listed_each [] = refl
listed_each (w ∷ ws) = ap (λ l. (w.key, w.seq) ∷ l) (listed_each ws)

pub staged_list : (flight : List WriteInFlight) (writes : List Write) → AreInFlight flight writes → listed_in_flight flight ≡ listed_as (unproved writes)
staged_list flight writes are = ap listed_in_flight are ∙ listed_each (unproved writes)

pub list_ok : (r : Result (List (List ℕ × ℕ)) NoMemory) (flight : List WriteInFlight) → IfOk r (λ list. list ≡ listed_in_flight flight) → (writes : List Write) → AreInFlight flight writes → IfOk r (λ list. list ≡ listed_as (unproved writes))
list_ok (Ok list) flight made writes are = made ∙ staged_list flight writes are
list_ok (Err e) flight made writes are = tt

later_known : (w : Write) (ws : List Write) (f : WriteInFlight) → IsKnownUnproved ws f → IsKnownUnproved (w ∷ ws) f
later_known w ws f known = record { w = known.w; written = contains_tail w ws known.w known.written; unproved = known.unproved; same = known.same }

known_by : (w : Write) (ws : List Write) (f : WriteInFlight) (b : Bool) → not (is_proved w) ≡ b → (Contains (map in_flight_as (unproved ws)) f → IsKnownUnproved ws f) → Contains (front_if b (in_flight_as w) (map in_flight_as (unproved ws))) f
    → IsKnownUnproved (w ∷ ws) f
known_by w ws f true at later c =
    elim (contains_cons (in_flight_as w) (map in_flight_as (unproved ws)) f c) [
      | inl here ↦ record { w = w; written = contains_head w ws; unproved = at; same = sym here }
      | inr behind ↦ later_known w ws f (later behind)
    ]
known_by w ws f false at later c = later_known w ws f (later c)

known_of : (ws : List Write) (f : WriteInFlight) → Contains (map in_flight_as (unproved ws)) f → IsKnownUnproved ws f
known_of [] f c = absurd (contains_nil f c)
known_of (w ∷ ws) f c = known_by w ws f (not (is_proved w)) refl (known_of ws f) (subst (λ l. Contains l f) (flight_cons w ws) c)

-- ---- the next sequence

-- The greatest sequence, from this one on.
abbrev last_from : ℕ → List Write → ℕ
last_from n ws = fold (λ most w. max most w.seq) n ws

from_least : (n : ℕ) (ws : List Write) → n ≤ last_from n ws
from_least n [] = omega arith
from_least n (w ∷ ws) = let low : max n w.seq ≤ last_from (max n w.seq) ws = from_least (max n w.seq) ws in omega (arith, low)

each_within : (n : ℕ) (ws : List Write) → All (λ w. w.seq ≤ last_from n ws) ws
each_within n [] = All-nil (λ w. w.seq ≤ n)
each_within n (w ∷ ws) =
    let low : max n w.seq ≤ last_from (max n w.seq) ws = from_least (max n w.seq) ws in
    All-cons (λ x. x.seq ≤ last_from n (w ∷ ws)) w ws (omega (arith, low)) (each_within (max n w.seq) ws)

none_above : (seq : ℕ) (ws : List Write) → All (λ w. w.seq < seq) ws → HasNoSeq seq ws
none_above seq [] all = refl
none_above seq (w ∷ ws) all =
    let P : Write → Type 0 = λ w. w.seq < seq in
    let rest = none_above seq ws (All-tail P w ws all) in
    let first : w.seq < seq = All-head P w ws all in
    let differs : (w.seq == seq) ≡ false = grind arith in
    ap (λ b. b || list_any (λ w. w.seq == seq) ws) differs ∙ rest

all_front : (P : WriteInFlight → Type 0) (b : Bool) (f : WriteInFlight) (fs : List WriteInFlight) → P f → All P fs → All P (front_if b f fs)
all_front P true f fs one rest = All-cons P f fs one rest
all_front P false f fs one rest = rest

flight_below : (n : ℕ) (ws : List Write) → All (λ w. w.seq < n) ws → All (λ f. f.seq < n) (map in_flight_as (unproved ws))
flight_below n [] all = All-nil (λ f. f.seq < n)
flight_below n (w ∷ ws) all =
    let P : Write → Type 0 = λ w. w.seq < n in
    let Q : WriteInFlight → Type 0 = λ f. f.seq < n in
    subst (λ l. All Q l) (sym (flight_cons w ws))
    (all_front Q (not (is_proved w)) (in_flight_as w) (map in_flight_as (unproved ws)) (All-head P w ws all) (flight_below n ws (All-tail P w ws all)))

below_next : (ws : List Write) → All (λ w. w.seq < last_seq_of ws + 1) ws
below_next ws = All-weaker (λ w. w.seq ≤ last_seq_of ws) (λ w. w.seq < last_seq_of ws + 1) (λ w low. omega (arith, low)) ws (each_within 0 ws)

-- ---- what is proved where none in flight lies

module _ (p : List ℕ → Bool) where
  -- Its key is so.
  abbrev lies : WriteInFlight → Bool
  lies f = p f.key

  or_false : (a b : Bool) → (a || b) ≡ false → (a ≡ false) × (b ≡ false)
  or_false true b h = absurd cc
  or_false false b h = (refl, h)

  none_by : (proved : Bool) (w : Write) (fs : List WriteInFlight) → is_proved w ≡ proved → list_any lies (front_if (not proved) (in_flight_as w) fs) ≡ false → (p w.key ≡ true → is_proved w ≡ true) × (list_any lies fs ≡ false)
  none_by true w fs is h = ((λ c. is), h)
  none_by false w fs is h =
      let parts = or_false (p w.key) (list_any lies fs) h in
      let out : p w.key ≡ false = parts.0 in
      ((λ c. absurd cc), parts.1)

  proved_in : (ws : List Write) → list_any lies (map in_flight_as (unproved ws)) ≡ false → All (λ w. IsTrue (p w.key) → IsTrue (is_proved w)) ws
  proved_in [] none = All-nil (λ w. IsTrue (p w.key) → IsTrue (is_proved w))
  proved_in (w ∷ ws) none =
      let parts = none_by (is_proved w) w (map in_flight_as (unproved ws)) refl (sym (ap (list_any lies) (flight_cons w ws)) ∙ none) in
      All-cons (λ w. IsTrue (p w.key) → IsTrue (is_proved w)) w ws parts.0 (proved_in ws parts.1)

-- ---- what is in flight stands beside its transaction

own_put : (id : TxnId) (epoch : ℕ) (meta : TxnMeta) → meta.id ≡ id → meta.epoch ≡ epoch → (same_txn meta.id id && (meta.epoch == epoch)) ≡ true
own_put id epoch meta whose now = ap (λ b. b && (meta.epoch == epoch)) (ap (λ i. same_txn i id) whose ∙ same_txn-self id) ∙ eq-eqb meta.epoch epoch now

either : (P : List Write → Type 0) (b : Bool) (xs ys : List Write) → P xs → P ys → P (cond b xs ys)
either P true xs ys x y = x
either P false xs ys x y = y

unproved_last : (w : Write) (ws : List Write) → is_proved w ≡ false → map in_flight_as (unproved (ws ++ w ∷ [])) ≡ map in_flight_as (unproved ws) ++ in_flight_as w ∷ []
unproved_last w [] new = flight_cons w [] ∙ ap (λ b. front_if (not b) (in_flight_as w) []) new
unproved_last w (x ∷ ws) new =
    flight_cons x (ws ++ w ∷ [])
    ∙ ap (λ fs. front_if (not (is_proved x)) (in_flight_as x) fs) (unproved_last w ws new)
    ∙ front_last (not (is_proved x)) (in_flight_as x) (map in_flight_as (unproved ws))
    ∙ ap (λ fs. fs ++ in_flight_as w ∷ []) (sym (flight_cons x ws))
  where
    front_last : (b : Bool) (f : WriteInFlight) (fs : List WriteInFlight) → front_if b f (fs ++ in_flight_as w ∷ []) ≡ front_if b f fs ++ in_flight_as w ∷ []
    front_last true f fs = refl
    front_last false f fs = refl

landed_later : (ts at : ℕ) → ts ≤ at → (ws : List Write) → All (HasLandedBy ts) ws → All (HasLandedBy at) ws
landed_later ts at low ws all =
    All-weaker (HasLandedBy ts) (HasLandedBy at)
    (λ w landed proved. any_weaker (λ proof. proof ≤ ts) (λ proof. proof ≤ at) (λ proof below. omega (arith, below, low)) w.proofs (landed proved))
    ws all

pub added_stands : (old new : List WriteInFlight) (t : Txn) (meta : TxnMeta) (seq ts : ℕ) (key : List ℕ) (value : Option (List ℕ)) → new ≡ old ++ record { key = key; seq = seq; value = value } ∷ []
    → FlightStands old t → HasNoSeq seq t.writes → meta.id ≡ t.id → meta.epoch ≡ t.epoch → FlightStands new (txn_sent (requests.Put meta seq ts key value) t)
added_stands old new t meta seq ts key value made f none whose now =
    let w : Write = record { key = key; seq = seq; value = value; asked = ts ∷ []; proofs = [] } in
    let writes : writes_sent t.id t.epoch (requests.Put meta seq ts key value) t.writes ≡ t.writes ++ w ∷ [] =
    ap (λ b. cond b (with_put seq ts key value t.writes) t.writes) (own_put t.id t.epoch meta whose now)
    ∙ ap (λ b. cond b (map (asked_again seq ts) t.writes) (t.writes ++ w ∷ [])) none in
    record {
      in_flight =
          made ∙ ap (λ fs. fs ++ in_flight_as w ∷ []) f.in_flight ∙ sym (unproved_last w t.writes refl)
          ∙ ap (λ ws. map in_flight_as (unproved ws)) (sym writes);
      landed =
          subst (λ ws. All (HasLandedBy t.write_ts) ws) (sym writes)
          (All-append (HasLandedBy t.write_ts) t.writes (w ∷ []) f.landed (All-cons (HasLandedBy t.write_ts) w [] (λ proved. absurd cc) (All-nil (HasLandedBy t.write_ts))));
    }

module _ (key : List ℕ) (seq ts from to : ℕ) (no_earlier : from ≤ to) (low : ts ≤ to) where
  landed_one : (b : Bool) (w : Write) → HasLandedBy from w → HasLandedBy to (cond b (record w { proofs = w.proofs ++ ts ∷ [] }) w)
  landed_one true w landed proved = any_behind (λ proof. proof ≤ to) w.proofs (ts ∷ []) (any_head (λ proof. proof ≤ to) ts [] low)
  landed_one false w landed proved =
      any_weaker (λ proof. proof ≤ from) (λ proof. proof ≤ to) (λ proof below. omega (arith, below, no_earlier)) w.proofs (landed proved)

  landed_proved : (ws : List Write) → All (HasLandedBy from) ws → All (HasLandedBy to) (map (proved_at key seq ts) ws)
  landed_proved [] all = All-nil (HasLandedBy to)
  landed_proved (w ∷ ws) all =
      All-cons (HasLandedBy to) (proved_at key seq ts w) (map (proved_at key seq ts) ws)
      (landed_one (w.seq == seq && same_key w.key key) w (All-head (HasLandedBy from) w ws all)) (landed_proved ws (All-tail (HasLandedBy from) w ws all))

-- a write that was heard to stand at this timestamp has left
stands_proved : (key : List ℕ) (seq ts : ℕ) (old new : List WriteInFlight) (t now : Txn) → new ≡ filter (is_another key seq) old → FlightStands old t → now.writes ≡ map (proved_at key seq ts) t.writes
    → t.write_ts ≤ now.write_ts → ts ≤ now.write_ts → FlightStands new now
stands_proved key seq ts old new t now made f writes no_earlier low = record {
  in_flight = proved_holds key seq ts old new made t.writes f.in_flight ∙ ap (λ ws. map in_flight_as (unproved ws)) (sym writes);
  landed = subst (λ ws. All (HasLandedBy now.write_ts) ws) (sym writes) (landed_proved key seq ts t.write_ts now.write_ts no_earlier low t.writes f.landed);
}

pub heard_stands : (key : List ℕ) (seq : ℕ) (old new : List WriteInFlight) → new ≡ filter (is_another key seq) old → (t : Txn) (sent : List Sent) (h : Heard) → FlightStands old t → ShowsStanding t key seq h
    → FlightStands new (txn_heard sent (Some h) t)
heard_stands key seq old new made t sent h f (inl w) =
    let put : Request = requests.Put w.meta seq w.sent_at key w.value in
    let writes : writes_replied t.id t.epoch h.request h.reply t.writes ≡ map (proved_at key seq w.ts) t.writes =
    ap (λ r. writes_replied t.id t.epoch r h.reply t.writes) w.asked
    ∙ ap (λ p. writes_replied t.id t.epoch put p t.writes) w.told
    ∙ ap (λ b. cond b (map (proved_at key seq w.ts) t.writes) t.writes) (own_put t.id t.epoch w.meta w.whose w.epoch_now) in
    let raised : raised_to t.id sent h.request h.reply ≡ w.ts =
    ap (λ r. raised_to t.id sent r h.reply) w.asked
    ∙ ap (λ p. raised_to t.id sent put p) w.told
    ∙ ap (λ b. cond b w.ts 0) (ap (λ i. same_txn i t.id) w.whose ∙ same_txn-self t.id) in
    let now : ℕ = max t.write_ts (raised_to t.id sent h.request h.reply) in
    let no_earlier : t.write_ts ≤ now = omega arith in
    let low : w.ts ≤ now = omega (arith, raised) in
    stands_proved key seq w.ts old new t (txn_heard sent (Some h) t) made f writes no_earlier low
heard_stands key seq old new made t sent h f (inr w) =
    let query : Request = requests.Query t.id t.epoch seq w.ts key w.by in
    let epoch : (t.epoch == t.epoch) ≡ true = eq-eqb t.epoch t.epoch refl in
    let writes : writes_replied t.id t.epoch h.request h.reply t.writes ≡ map (proved_at key seq w.ts) t.writes =
    ap (λ r. writes_replied t.id t.epoch r h.reply t.writes) w.asked
    ∙ ap (λ p. writes_replied t.id t.epoch query p t.writes) w.told
    ∙ ap (λ b. cond b (map (proved_at key seq w.ts) t.writes) t.writes) (ap (λ b. b && (t.epoch == t.epoch)) (same_txn-self t.id) ∙ epoch) in
    let now : ℕ = max t.write_ts (raised_to t.id sent h.request h.reply) in
    let no_earlier : t.write_ts ≤ now = omega arith in
    let below : w.ts ≤ t.write_ts = w.low in
    let low : w.ts ≤ now = omega (arith, below) in
    stands_proved key seq w.ts old new t (txn_heard sent (Some h) t) made f writes no_earlier low

pub nothing_stands : (flight : List WriteInFlight) (t : Txn) → flight ≡ [] → t.writes ≡ [] → FlightStands flight t
nothing_stands flight t none nothing = record {
  in_flight = none ∙ ap (λ ws. map in_flight_as (unproved ws)) (sym nothing);
  landed = subst (λ ws. All (HasLandedBy t.write_ts) ws) (sym nothing) (All-nil (HasLandedBy t.write_ts));
}

-- where nothing is in flight, all is proved
empty_any : (fs : List WriteInFlight) → length fs ≡ 0 → list_any (λ f. true) fs ≡ false
empty_any [] none = refl
empty_any (f ∷ fs) none = absurd cc

landed_each : (ts : ℕ) (ws : List Write) → All (λ w. IsTrue true → IsTrue (is_proved w)) ws → All (HasLandedBy ts) ws → All (IsProvedBy ts) ws
landed_each ts [] proved landed = All-nil (IsProvedBy ts)
landed_each ts (w ∷ ws) proved landed =
    All-cons (IsProvedBy ts) w ws (All-head (HasLandedBy ts) w ws landed (All-head (λ w. IsTrue true → IsTrue (is_proved w)) w ws proved refl))
    (landed_each ts ws (All-tail (λ w. IsTrue true → IsTrue (is_proved w)) w ws proved) (All-tail (HasLandedBy ts) w ws landed))

pub landed_all : (flight : List WriteInFlight) (t : Txn) → FlightStands flight t → length flight ≡ 0 → All (IsProvedBy t.write_ts) t.writes
landed_all flight t f none =
    landed_each t.write_ts t.writes (proved_in (λ key. true) t.writes (sym (ap (list_any (λ f. true)) f.in_flight) ∙ empty_any flight none)) f.landed

stands_resent : (flight : List WriteInFlight) (t : Txn) (meta : TxnMeta) (seq ts : ℕ) (key : List ℕ) (value : Option (List ℕ)) → FlightStands flight t → list_any (λ w. w.seq == seq) t.writes ≡ true
    → FlightStands flight (txn_sent (requests.Put meta seq ts key value) t)
stands_resent flight t meta seq ts key value f there =
    let own : Bool = same_txn meta.id t.id && (meta.epoch == t.epoch) in
    let again : with_put seq ts key value t.writes ≡ map (asked_again seq ts) t.writes =
    ap (λ b. cond b (map (asked_again seq ts) t.writes) (t.writes ++ record { key = key; seq = seq; value = value; asked = ts ∷ []; proofs = [] } ∷ [])) there in
    record {
      in_flight =
          either (λ ws. AreInFlight flight ws) own (with_put seq ts key value t.writes) t.writes
          (f.in_flight ∙ sym (again_flight seq ts t.writes) ∙ ap (λ ws. map in_flight_as (unproved ws)) (sym again)) f.in_flight;
      landed =
          either (λ ws. All (HasLandedBy t.write_ts) ws) own (with_put seq ts key value t.writes) t.writes
          (subst (λ ws. All (HasLandedBy t.write_ts) ws) (sym again) (landed_again t.writes f.landed)) f.landed;
    }
  where
    landed_same : (b : Bool) (w : Write) → HasLandedBy t.write_ts w → HasLandedBy t.write_ts (cond b (record w { asked = w.asked ++ ts ∷ [] }) w)
    landed_same true w landed = landed
    landed_same false w landed = landed

    landed_again : (ws : List Write) → All (HasLandedBy t.write_ts) ws → All (HasLandedBy t.write_ts) (map (asked_again seq ts) ws)
    landed_again [] all = All-nil (HasLandedBy t.write_ts)
    landed_again (w ∷ ws) all =
        All-cons (HasLandedBy t.write_ts) (asked_again seq ts w) (map (asked_again seq ts) ws)
        (landed_same (w.seq == seq) w (All-head (HasLandedBy t.write_ts) w ws all)) (landed_again ws (All-tail (HasLandedBy t.write_ts) w ws all))

stands_later : (flight : List WriteInFlight) (t now : Txn) → FlightStands flight t → now.writes ≡ t.writes → t.write_ts ≤ now.write_ts → FlightStands flight now
stands_later flight t now f same no_earlier = record {
  in_flight = f.in_flight ∙ ap (λ ws. map in_flight_as (unproved ws)) (sym same);
  landed = subst (λ ws. All (HasLandedBy now.write_ts) ws) (sym same) (landed_later t.write_ts now.write_ts no_earlier t.writes f.landed);
}

pub flights_hold : FlightsHold
flights_hold = record {
  again = λ flight writes seq ts key value are there.
      are ∙ sym (again_flight seq ts writes)
      ∙ ap (λ l. map in_flight_as (unproved l))
      (sym (ap (λ b. cond b (map (asked_again seq ts) writes) (writes ++ record { key = key; seq = seq; value = value; asked = ts ∷ []; proofs = [] } ∷ [])) there));
  known = λ flight writes are f there. known_of writes f (subst (λ l. Contains l f) are there);
  next = λ flight writes are. (
    subst (λ l. All (λ f. f.seq < last_seq_of writes + 1) l) (sym are) (flight_below (last_seq_of writes + 1) writes (below_next writes)),
    none_above (last_seq_of writes + 1) writes (below_next writes),
  );
  read = λ span flight writes are none. proved_in (contains span) writes (sym (ap (list_any (lies (contains span))) are) ∙ none);
  first = λ key flight writes are none. proved_in (λ own. same_key own key) writes (sym (ap (list_any (lies (λ own. same_key own key))) are) ∙ none);
  on = stands_later;
  resent = stands_resent;
  done = landed_all;
}
