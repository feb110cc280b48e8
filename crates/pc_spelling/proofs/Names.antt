-- Names, keys, values and spans: what was printed is read again, and what is read is spelled so.
use Rattle.std.proofs.Common.{◌≡◌, ℕ, ◌<◌, Bool, true, false, cond, ◌&&◌, ◌==◌, List, [], ◌∷◌, ◌++◌, length, Option, None, Some, option_map, refl, sym, ap, subst, ◌∙◌, inl, inr, arith, codes, bytes_eq, IfSome, nat_le}
use Rattle.std.specs.List.{list_all}
use Rattle.std.specs.Option.{option_map_or}
use Rattle.std.proofs.lemmas.Bool.{eqb-true, le-leb, leb-true}
use Rattle.std.proofs.lemmas.Option.{cond_some, same_Some}
use Rattle.std.proofs.lemmas.Slice.Eq.{bytes_eq-Decides}
use Rattle.pc_base.specs.declared.actor.ActorId.{ActorId}
use Rattle.pc_base.specs.declared.actor.ActorId.TheVariants as actors
use Rattle.pc_base.specs.declared.limits.TheConstants.{KEY_BYTES, VALUE_BYTES}
use Rattle.pc_base.specs.declared.span.Span.{Span}
use Rattle.pc_base.specs.declared.span.Span.TheVariants as spans
use Rattle.pc_base.specs.declared.transaction.Priority.{Priority}
use Rattle.pc_base.specs.declared.transaction.Priority.TheVariants as priorities
use Rattle.pc_base.specs.declared.transaction.TxnId.{TxnId}
use Rattle.pc_base.specs.declared.transaction.Who.{Who}
use Rattle.pc_base.specs.declared.transaction.Who.TheVariants as whos
use Rattle.pc_base.specs.Key.{IsKey, is_key_byte}
use Rattle.pc_base.specs.Value.{IsValue, is_value_byte}
use Rattle.std.specs.Fmt.{decimal}
use Rattle.std.proofs.lemmas.Fmt.{decimal_nonempty}
use Rattle.pc_proto.specs.declared.reply.Origin.{Origin}
use Rattle.pc_proto.specs.declared.reply.Origin.TheVariants as origins
use Rattle.pc_journal.specs.Number.{ts_text}
use Rattle.pc_journal.specs.Reply.{origin_text}
use Rattle.pc_journal.specs.Names.{id_text, actor_text, who_text, priority_text}
use Rattle.pc_journal.specs.Optional.{or_dash, key_text, value_text}
use Rattle.pc_journal.specs.Span.{span_text}
use Rattle.pc_spelling.specs.Bytes.{is_digit, is_origin_byte, is_part_byte}
use Rattle.pc_spelling.specs.Cutting.{cut, both, made, or_dash_at}
use Rattle.pc_journal.specs.Fits.{Fits32, FitsActor, FitsOrigin, FitsPriority, FitsSpan, FitsValue, FitsWho}
use Rattle.pc_spelling.specs.Reading.{number32_at, id_at, actor_at, range_at, who_at, priority_at, key_at, value_bytes_at, value_at, maybe_value_at, span_at, origin_at, ts_at}
use Rattle.pc_spelling.proofs.ByteClasses.{is_other, all_within, both_true, true_both, digits_in_keys, keys_in_origins, keys_in_values, values_in_parts, within_both}
use Rattle.pc_spelling.proofs.Cuts.{chosen, map_some, cut_at, cut_none}
use Rattle.pc_spelling.proofs.Numbers.{number32, ts, id, no_empty_id}
use Rattle.pc_spelling.proofs.Readings.{IsReading, both_reading, no_text, or_dash_reading, wider}

-- ---- keys and values

abbrev key_test : List ℕ → Bool
key_test bs = (nat_le 1 (length bs) && nat_le (length bs) KEY_BYTES) && list_all is_key_byte bs

key_passes : (bs : List ℕ) → IsKey bs → key_test bs ≡ true
key_passes bs h =
    true_both (nat_le 1 (length bs) && nat_le (length bs) KEY_BYTES) (list_all is_key_byte bs) (true_both (nat_le 1 (length bs)) (nat_le (length bs) KEY_BYTES) (le-leb 1 (length bs) h.long.least) (le-leb (length bs) KEY_BYTES h.long.most)) h.allowed

key_from : (bs : List ℕ) → key_test bs ≡ true → IsKey bs
key_from bs h =
    let parts = both_true (nat_le 1 (length bs) && nat_le (length bs) KEY_BYTES) (list_all is_key_byte bs) h in
    let long = both_true (nat_le 1 (length bs)) (nat_le (length bs) KEY_BYTES) parts.0 in
    record { long = record { least = leb-true 1 (length bs) long.0; most = leb-true (length bs) KEY_BYTES long.1 }; allowed = parts.1 }

key_takes : (bs k : List ℕ) → key_at bs ≡ Some k → (bs ≡ k) × IsKey k
unfolding key_at
key_takes bs k e =
    let p = cond_some (key_test bs) bs k e in
    (p.1, subst IsKey p.1 (key_from bs p.0))

key_again : (bs : List ℕ) → IsKey bs → key_at bs ≡ Some bs
unfolding key_at
key_again bs h = ap (λ (b : Bool). cond b (Some bs) None) (key_passes bs h)

pub key : IsReading is_key_byte IsKey key_text key_at
key = record { again = key_again; takes = key_takes; bytes = λ bs h. h.allowed }

abbrev value_test : List ℕ → Bool
value_test bs = nat_le (length bs) VALUE_BYTES && list_all is_value_byte bs

value_from : (bs : List ℕ) → value_test bs ≡ true → IsValue bs
value_from bs h =
    let parts = both_true (nat_le (length bs) VALUE_BYTES) (list_all is_value_byte bs) h in
    record { short = leb-true (length bs) VALUE_BYTES parts.0; allowed = parts.1 }

value_takes : (bs v : List ℕ) → value_bytes_at bs ≡ Some v → (bs ≡ v) × IsValue v
unfolding value_bytes_at
value_takes bs v e =
    let p = cond_some (value_test bs) bs v e in
    (p.1, subst IsValue p.1 (value_from bs p.0))

value_again : (bs : List ℕ) → IsValue bs → value_bytes_at bs ≡ Some bs
unfolding value_bytes_at
value_again bs h =
    ap (λ (b : Bool). cond b (Some bs) None) (true_both (nat_le (length bs) VALUE_BYTES) (list_all is_value_byte bs) (le-leb (length bs) VALUE_BYTES h.short) h.allowed)

pub value_bytes : IsReading is_value_byte IsValue (λ (v : List ℕ). v) value_bytes_at
value_bytes = record { again = value_again; takes = value_takes; bytes = λ bs h. h.allowed }

behind_sign_takes : (bs v : List ℕ) → value_at bs ≡ Some v → (bs ≡ 61 ∷ v) × IsValue v
unfolding value_at
behind_sign_takes [] v e = absurd cc
behind_sign_takes (sign ∷ bs) v e =
    elim (chosen (sign == 61) (value_bytes_at bs) None (Some v) e) [
      | inl hit ↦
          let taken = value_takes bs v hit.1 in
          (ap (λ (b : ℕ). b ∷ bs) (eqb-true sign 61 hit.0) ∙ ap (λ (t : List ℕ). 61 ∷ t) taken.0, taken.1)
      | inr miss ↦ absurd (cc miss.1)
    ]

behind_sign_again : (v : List ℕ) → IsValue v → value_at (61 ∷ v) ≡ Some v
unfolding value_at
behind_sign_again v h = value_again v h

pub value : IsReading is_value_byte IsValue value_text value_at
value = record { again = behind_sign_again; takes = behind_sign_takes; bytes = λ v h. h.allowed }

no_dash_value : value_at (codes "-") ≡ None
unfolding value_at
no_dash_value = refl

pub maybe_value : IsReading is_value_byte FitsValue (or_dash value_text) maybe_value_at
maybe_value = or_dash_reading no_dash_value refl value

pub no_dash_key : key_at (codes "-") ≡ None
unfolding key_at
no_dash_key = refl

-- ---- spans

ends : IsReading is_part_byte (λ (p : Option (List ℕ) × Option (List ℕ)). IfSome p.0 IsKey × IfSome p.1 IsKey) (λ (p : Option (List ℕ) × Option (List ℕ)). or_dash key_text p.0 ++ (44 ∷ or_dash key_text p.1)) (both 44 (or_dash_at key_at) (or_dash_at key_at))
ends = both_reading 44 refl refl values_in_parts (or_dash_reading no_dash_key refl (wider keys_in_values key)) (wider values_in_parts (or_dash_reading no_dash_key refl (wider keys_in_values key)))

span_again : (span : Span) → FitsSpan span → span_at (span_text span) ≡ Some span
unfolding span_at
span_again (spans.One k) h = rw (cut_none is_key_byte 44 refl k h.allowed, key_again k h) refl
span_again (spans.Between from to) h =
    let bytes = (or_dash_reading no_dash_key refl (wider keys_in_values key)).bytes from h.0 in
    ap (λ (o : Option (List ℕ × List ℕ)). option_map_or (λ cuts. made (λ p. spans.Between p.0 p.1) (both 44 (or_dash_at key_at) (or_dash_at key_at)) (span_text (spans.Between from to))) o (option_map spans.One (key_at (span_text (spans.Between from to))))) (cut_at is_value_byte 44 refl (or_dash key_text from) (or_dash key_text to) bytes) ∙ ap (option_map (λ p. spans.Between p.0 p.1)) (ends.again (from, to) h)

span_takes : (bs : List ℕ) (span : Span) (o : Option (List ℕ × List ℕ)) → option_map_or (λ cuts. made (λ p. spans.Between p.0 p.1) (both 44 (or_dash_at key_at) (or_dash_at key_at)) bs) o (option_map spans.One (key_at bs)) ≡ Some span → (bs ≡ span_text span) × FitsSpan span
span_takes bs span None e =
    let m = map_some spans.One (key_at bs) span e in
    subst (λ (s : Span). (bs ≡ span_text s) × FitsSpan s) m.2 (key_takes bs m.0 m.1)
span_takes bs span (Some cuts) e =
    let m = map_some (λ p. spans.Between p.0 p.1) (both 44 (or_dash_at key_at) (or_dash_at key_at) bs) span e in
    subst (λ (s : Span). (bs ≡ span_text s) × FitsSpan s) m.2 (ends.takes bs m.0 m.1)

span_bytes : (span : Span) → FitsSpan span → list_all is_part_byte (span_text span) ≡ true
span_bytes (spans.One k) h = all_within (within_both keys_in_values values_in_parts) k h.allowed
span_bytes (spans.Between from to) h = ends.bytes (from, to) h

span_cut : (bs : List ℕ) (span : Span) → span_at bs ≡ Some span → (bs ≡ span_text span) × FitsSpan span
unfolding span_at
span_cut bs span e = span_takes bs span (cut 44 bs) e

pub span : IsReading is_part_byte FitsSpan span_text span_at
span = record { again = span_again; takes = span_cut; bytes = span_bytes }

-- ---- actors

actor_again : (actor : ActorId) → FitsActor actor → actor_at (actor_text actor) ≡ Some actor
unfolding actor_at
actor_again (actors.Range n) h = ap (option_map actors.Range) (number32.again n h)
actor_again (actors.Session n) h = ap (option_map actors.Session) (number32.again n h)
actor_again (actors.Recoverer n) h = ap (option_map actors.Recoverer) (number32.again n h)

-- A number behind its letter.
numbered : {A : Type 0} (P : A → Type 0) (text : A → List ℕ) (make : ℕ → A) (code letter : ℕ) (digits : List ℕ) (x : A) → ((n : ℕ) → Fits32 n → P (make n)) → ((n : ℕ) → text (make n) ≡ code ∷ decimal n) → (letter == code) ≡ true → option_map make (number32_at digits) ≡ Some x → (letter ∷ digits ≡ text x) × P x
numbered {A} P text make code letter digits x fits spelled hit e =
    let m = map_some make (number32_at digits) x e in
    let taken = number32.takes digits m.0 m.1 in
    subst (λ (y : A). (letter ∷ digits ≡ text y) × P y) m.2 (ap (λ (b : ℕ). b ∷ digits) (eqb-true letter code hit) ∙ ap (λ (t : List ℕ). code ∷ t) taken.0 ∙ sym (spelled m.0), fits m.0 taken.1)

actor_takes : (bs : List ℕ) (actor : ActorId) → actor_at bs ≡ Some actor → (bs ≡ actor_text actor) × FitsActor actor
unfolding actor_at
actor_takes [] actor e = absurd cc
actor_takes (letter ∷ digits) actor e =
    elim (chosen (letter == 114) (option_map actors.Range (number32_at digits)) (cond (letter == 115) (option_map actors.Session (number32_at digits)) (cond (letter == 118) (option_map actors.Recoverer (number32_at digits)) None)) (Some actor) e) [
      | inl hit ↦ numbered FitsActor actor_text actors.Range 114 letter digits actor (λ n h. h) (λ n. refl) hit.0 hit.1
      | inr miss ↦ elim (chosen (letter == 115) (option_map actors.Session (number32_at digits)) (cond (letter == 118) (option_map actors.Recoverer (number32_at digits)) None) (Some actor) miss.1) [
        | inl hit ↦ numbered FitsActor actor_text actors.Session 115 letter digits actor (λ n h. h) (λ n. refl) hit.0 hit.1
        | inr other ↦ elim (chosen (letter == 118) (option_map actors.Recoverer (number32_at digits)) None (Some actor) other.1) [
          | inl hit ↦ numbered FitsActor actor_text actors.Recoverer 118 letter digits actor (λ n h. h) (λ n. refl) hit.0 hit.1
          | inr none ↦ absurd (cc none.1)
        ]
      ]
    ]

actor_bytes : (actor : ActorId) → FitsActor actor → list_all is_key_byte (actor_text actor) ≡ true
actor_bytes (actors.Range n) h = all_within digits_in_keys (decimal n) (number32.bytes n h)
actor_bytes (actors.Session n) h = all_within digits_in_keys (decimal n) (number32.bytes n h)
actor_bytes (actors.Recoverer n) h = all_within digits_in_keys (decimal n) (number32.bytes n h)

pub actor : IsReading is_key_byte FitsActor actor_text actor_at
actor = record { again = actor_again; takes = actor_takes; bytes = actor_bytes }

range_takes : (bs : List ℕ) (n : ℕ) → range_at bs ≡ Some n → (bs ≡ actor_text (actors.Range n)) × Fits32 n
unfolding range_at
range_takes [] n e = absurd cc
range_takes (letter ∷ digits) n e =
    let p = chosen (letter == 114) (number32_at digits) None (Some n) e in
    elim p [
      | inl hit ↦
          let taken = number32.takes digits n hit.1 in
          (ap (λ (b : ℕ). b ∷ digits) (eqb-true letter 114 hit.0) ∙ ap (λ (t : List ℕ). 114 ∷ t) taken.0, taken.1)
      | inr miss ↦ absurd (cc miss.1)
    ]

range_again : (n : ℕ) → Fits32 n → range_at (actor_text (actors.Range n)) ≡ Some n
unfolding range_at
range_again n h = number32.again n h

pub range : IsReading is_key_byte Fits32 (λ n. actor_text (actors.Range n)) range_at
range = record { again = range_again; takes = range_takes; bytes = λ n h. actor_bytes (actors.Range n) h }

-- ---- who

-- What stands first in digits is a digit.
first_digit : (ds rest : List ℕ) (b : ℕ) (bs : List ℕ) → list_all is_digit ds ≡ true → 0 < length ds → b ∷ bs ≡ ds ++ rest → is_digit b ≡ true
first_digit [] rest b bs digits some e = absurd (omega arith)
first_digit (d ∷ ds) rest b bs digits some e =
    let same : b ≡ d = cc in
    ap is_digit same ∙ (both_true (is_digit d) (list_all is_digit ds) digits).0

no_letter : (letter : ℕ) (rest : List ℕ) (i : TxnId) → id_at (letter ∷ rest) ≡ Some i → (letter == 118) ≡ false
no_letter letter rest i e =
    let taken = id.takes (letter ∷ rest) i e in
    let digit = first_digit (decimal i.session) (46 ∷ decimal i.number) letter rest (number32.bytes i.session taken.1.0) (decimal_nonempty i.session (omega (arith, taken.1.0))) taken.0 in
    is_other is_digit 118 letter refl digit

who_of_id : (bs : List ℕ) (i : TxnId) → id_at bs ≡ Some i → who_at bs ≡ Some (whos.Txn i)
unfolding who_at
who_of_id [] i e = absurd (cc (no_empty_id, e))
who_of_id (letter ∷ rest) i e = rw (no_letter letter rest i e, e) refl

who_again : (who : Who) → FitsWho who → who_at (who_text who) ≡ Some who
unfolding who_at
who_again (whos.Txn i) h = who_of_id (id_text i) i (id.again i h)
who_again (whos.Recoverer n) h = ap (option_map whos.Recoverer) (number32.again n h)

who_takes : (bs : List ℕ) (who : Who) → who_at bs ≡ Some who → (bs ≡ who_text who) × FitsWho who
unfolding who_at
who_takes [] who e = absurd cc
who_takes (letter ∷ rest) who e =
    elim (chosen (letter == 118) (option_map whos.Recoverer (number32_at rest)) (option_map whos.Txn (id_at (letter ∷ rest))) (Some who) e) [
      | inl hit ↦ numbered FitsWho who_text whos.Recoverer 118 letter rest who (λ n h. h) (λ n. refl) hit.0 hit.1
      | inr miss ↦
          let m = map_some whos.Txn (id_at (letter ∷ rest)) who miss.1 in
          subst (λ (w : Who). (letter ∷ rest ≡ who_text w) × FitsWho w) m.2 (id.takes (letter ∷ rest) m.0 m.1)
    ]

who_bytes : (who : Who) → FitsWho who → list_all is_key_byte (who_text who) ≡ true
who_bytes (whos.Txn i) h = id.bytes i h
who_bytes (whos.Recoverer n) h = all_within digits_in_keys (decimal n) (number32.bytes n h)

pub who : IsReading is_key_byte FitsWho who_text who_at
who = record { again = who_again; takes = who_takes; bytes = who_bytes }

-- ---- priorities

priority_again : (p : Priority) → priority_at (priority_text p) ≡ Some p
unfolding priority_at
priority_again priorities.Low = refl
priority_again priorities.Normal = refl
priority_again priorities.High = refl

priority_bytes : (p : Priority) → list_all is_key_byte (priority_text p) ≡ true
priority_bytes priorities.Low = refl
priority_bytes priorities.Normal = refl
priority_bytes priorities.High = refl

-- A word that was found is the text of what it names.
word_hit : {A : Type 0} (text : A → List ℕ) (bs word : List ℕ) (value x : A) → bytes_eq bs word ≡ true → text value ≡ word → Some value ≡ Some x → bs ≡ text x
word_hit text bs word value x hit spelled e = (bytes_eq-Decides bs word).0 hit ∙ sym spelled ∙ ap text (same_Some value x e)

priority_takes : (bs : List ℕ) (p : Priority) → priority_at bs ≡ Some p → bs ≡ priority_text p
unfolding priority_at
priority_takes bs p e =
    elim (chosen (bytes_eq bs (codes "low")) (Some priorities.Low) (cond (bytes_eq bs (codes "normal")) (Some priorities.Normal) (cond (bytes_eq bs (codes "high")) (Some priorities.High) None)) (Some p) e) [
      | inl hit ↦ word_hit priority_text bs (codes "low") priorities.Low p hit.0 refl hit.1
      | inr miss ↦ elim (chosen (bytes_eq bs (codes "normal")) (Some priorities.Normal) (cond (bytes_eq bs (codes "high")) (Some priorities.High) None) (Some p) miss.1) [
        | inl hit ↦ word_hit priority_text bs (codes "normal") priorities.Normal p hit.0 refl hit.1
        | inr other ↦ elim (chosen (bytes_eq bs (codes "high")) (Some priorities.High) None (Some p) other.1) [
          | inl hit ↦ word_hit priority_text bs (codes "high") priorities.High p hit.0 refl hit.1
          | inr none ↦ absurd (cc none.1)
        ]
      ]
    ]

pub priority : IsReading is_key_byte FitsPriority priority_text priority_at
priority = record { again = λ p h. priority_again p; takes = λ bs p e. (priority_takes bs p e, tt); bytes = λ p h. priority_bytes p }

-- ---- origins

no_origin_word : (ts_at (codes "-") ≡ None) × (ts_at (codes "own") ≡ None)
unfolding ts_at cut
no_origin_word = (refl, refl)

origin_again : (origin : Origin) → FitsOrigin origin → origin_at (origin_text origin) ≡ Some origin
unfolding origin_at
origin_again origins.Nothing h = refl
origin_again origins.Own h = refl
origin_again (origins.At t) h = rw (no_text (codes "-") no_origin_word.0 ts t h, no_text (codes "own") no_origin_word.1 ts t h, ts.again t h) refl

origin_takes : (bs : List ℕ) (origin : Origin) → origin_at bs ≡ Some origin → (bs ≡ origin_text origin) × FitsOrigin origin
unfolding origin_at
origin_takes bs origin e =
    elim (chosen (bytes_eq bs (codes "-")) (Some origins.Nothing) (cond (bytes_eq bs (codes "own")) (Some origins.Own) (option_map origins.At (ts_at bs))) (Some origin) e) [
      | inl hit ↦ (word_hit origin_text bs (codes "-") origins.Nothing origin hit.0 refl hit.1, subst FitsOrigin (same_Some origins.Nothing origin hit.1) tt)
      | inr miss ↦ elim (chosen (bytes_eq bs (codes "own")) (Some origins.Own) (option_map origins.At (ts_at bs)) (Some origin) miss.1) [
        | inl hit ↦ (word_hit origin_text bs (codes "own") origins.Own origin hit.0 refl hit.1, subst FitsOrigin (same_Some origins.Own origin hit.1) tt)
        | inr other ↦
            let m = map_some origins.At (ts_at bs) origin other.1 in
            subst (λ (o : Origin). (bs ≡ origin_text o) × FitsOrigin o) m.2 (ts.takes bs m.0 m.1)
      ]
    ]

origin_bytes : (origin : Origin) → FitsOrigin origin → list_all is_origin_byte (origin_text origin) ≡ true
origin_bytes origins.Nothing h = refl
origin_bytes origins.Own h = refl
origin_bytes (origins.At t) h = all_within keys_in_origins (ts_text t) (ts.bytes t h)

pub origin : IsReading is_origin_byte FitsOrigin origin_text origin_at
origin = record { again = origin_again; takes = origin_takes; bytes = origin_bytes }
