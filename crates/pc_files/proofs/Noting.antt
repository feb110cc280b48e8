-- What is noted stays what was sent and heard first, message by message and reply by reply.
use Rattle.std.proofs.Common.{◌≡◌, ◌↔◌, ◌&&◌, ◌||◌, ◌==◌, ℕ, Any, Bool, true, false, cond, List, [], ◌∷◌, ◌++◌, Option, None, Some, find, is_some, refl, sym, ap, subst, ◌∙◌, arith}
use Rattle.std.proofs.lemmas.Bool.{and_from, and_parts}
use Rattle.std.proofs.lemmas.List.Folds.{Any-from_list_any, find-append, list_any-append, list_any-from_Any}
use Rattle.std.specs.declared.cmp.Ordering.{Ordering}
use Rattle.std.specs.declared.cmp.Ordering.TheVariants.{Less, Equal, Greater}
use Rattle.std.specs.List.{list_any}
use Rattle.std.specs.Option.{option_map, option_or}
use Rattle.std.specs.Ordering.{is_eq, nat_cmp, ordering_then}
use Rattle.std.specs.Cmp.Lexicographic.{slice_cmp}
use Rattle.pc_base.proofs.TxnOrder.{txn_equal}
use Rattle.pc_base.specs.declared.transaction.TxnId.{TxnId}
use Rattle.pc_base.specs.Span.{same_key}
use Rattle.pc_base.specs.Transaction.{same_txn, txn_cmp}
use Rattle.pc_files.proofs.Narrow.{itself, same_is}
use Rattle.pc_files.specs.FirstPuts.{first_put_of, is_same_write, number_if, write_cmp}
use Rattle.pc_files.specs.SettledKeys.{is_resolve_told, settled_key_cmp, settles_key}
use Rattle.pc_lists.proofs.Anywhere.{any_weaker}
use Rattle.pc_lists.proofs.Same.{same_key-is, same_key-self}
use Rattle.pc_own.proofs.ByPlace.{numbers_equal}
use Rattle.pc_proto.specs.declared.fate.Fate.{Fate}
use Rattle.pc_proto.specs.declared.reply.Reply.{Reply}
use Rattle.pc_proto.specs.declared.reply.Reply.TheVariants as replies
use Rattle.pc_proto.specs.declared.request.Request.{Request}
use Rattle.pc_proto.specs.declared.request.Request.TheVariants as requests
use Rattle.pc_proto.specs.Requests.{is_put_of}
use Rattle.pc_world.specs.Known.Traffic.{Heard, Sent}
use Rattle.pc_world.specs.Send.Settling.{WasResolved}

then-equal : (one other : Ordering) → is_eq (ordering_then one other) ≡ (is_eq one && is_eq other)
then-equal Less other = refl
then-equal Equal other = refl
then-equal Greater other = refl

and-apart : (a b c : Bool) → ((a && b) && c) ≡ (a && (b && c))
and-apart true b c = refl
and-apart false b c = refl

-- ---- the first put of each write

pub write_equal : (one other : TxnId × ℕ × ℕ) → is_eq (write_cmp one other) ≡ is_same_write one other
write_equal one other =
    then-equal (ordering_then (txn_cmp one.0 other.0) (nat_cmp one.1 other.1)) (nat_cmp one.2 other.2)
    ∙ ap (λ b. b && is_eq (nat_cmp one.2 other.2)) (then-equal (txn_cmp one.0 other.0) (nat_cmp one.1 other.1))
    ∙ ap (λ b. (b && is_eq (nat_cmp one.1 other.1)) && is_eq (nat_cmp one.2 other.2)) (txn_equal one.0 other.0)
    ∙ ap (λ b. (same_txn one.0 other.0 && b) && is_eq (nat_cmp one.2 other.2)) (numbers_equal one.1 other.1)
    ∙ ap (λ b. (same_txn one.0 other.0 && (one.1 == other.1)) && b) (numbers_equal one.2 other.2)
    ∙ and-apart (same_txn one.0 other.0) (one.1 == other.1) (one.2 == other.2)

or-none : (o : Option ℕ) → o ≡ option_or o None
or-none None = refl
or-none (Some n) = refl

pub kept_new : (b : Bool) (number : ℕ) (old : Option ℕ) → (b ≡ true → old ≡ None) → cond b (Some number) old ≡ option_or old (number_if b number)
kept_new true number old none = ap (λ o. option_or o (Some number)) (sym (none refl))
kept_new false number old none = or-none old

pub kept_old : (b : Bool) (number : ℕ) (old : Option ℕ) → (b ≡ true → is_some old ≡ true) → old ≡ option_or old (number_if b number)
kept_old true number None some = let no : false ≡ true = some refl in absurd (cc no)
kept_old true number (Some n) some = refl
kept_old false number old some = or-none old

pub none_of : (o : Option ℕ) → is_some o ≡ false → o ≡ None
none_of None off = refl
none_of (Some n) off = absurd cc

pub same_write_is : (one other : TxnId × ℕ × ℕ) → is_same_write one other ≡ true → one ≡ other
same_write_is one other same = grind arith

first-by : (o : Option Sent) (b : Bool) (m : Sent) → option_map (λ (x : Sent). x.number) (option_or o (cond b (Some m) None)) ≡ option_or (option_map (λ (x : Sent). x.number) o) (number_if b m.number)
first-by None true m = refl
first-by None false m = refl
first-by (Some x) true m = refl
first-by (Some x) false m = refl

-- one more message
pub first_after : (id : TxnId) (epoch seq : ℕ) (sent : List Sent) (m : Sent) → option_or (first_put_of id epoch seq sent) (number_if (is_put_of id epoch seq m.request) m.number) ≡ first_put_of id epoch seq (sent ++ m ∷ [])
first_after id epoch seq sent m =
    let p : Sent → Bool = λ x. is_put_of id epoch seq x.request in
    sym (ap (option_map (λ (x : Sent). x.number)) (find-append p sent (m ∷ [])) ∙ first-by (find p sent) (p m) m)

-- ---- the keys that were settled

pub place_equal : (one other : TxnId × List ℕ) → is_eq (settled_key_cmp one other) ≡ (same_txn one.0 other.0 && same_key one.1 other.1)
place_equal one other =
    then-equal (txn_cmp one.0 other.0) (slice_cmp nat_cmp one.1 other.1) ∙ ap (λ b. b && same_key one.1 other.1) (txn_equal one.0 other.0)

pub added_one : (b had : Bool) → cond b true had ≡ (had || b)
added_one true true = refl
added_one true false = refl
added_one false true = refl
added_one false false = refl

no-more : (b : Bool) → (b || false) ≡ b
no-more true = refl
no-more false = refl

-- one more reply
pub settled_after : (id : TxnId) (key : List ℕ) (heard : List Heard) (h : Heard) → (list_any (settles_key id key) heard || settles_key id key h) ≡ list_any (settles_key id key) (heard ++ h ∷ [])
settled_after id key heard h = ap (λ b. list_any (settles_key id key) heard || b) (sym (no-more (settles_key id key h))) ∙ sym (list_any-append (settles_key id key) heard (h ∷ []))

told-by : (id : TxnId) (key : List ℕ) (request : Request) (reply : Reply) → is_resolve_told id key request reply ≡ true → (fate : Fate) × (request ≡ requests.Resolve id key fate) × (reply ≡ replies.Resolved)
told-by id key (requests.Resolve other place fate) replies.Resolved t =
    let parts = and_parts (same_txn other id) (same_key place key) t in
    let same : other ≡ id = same_is other id parts.0 in
    let there : place ≡ key = same_key-is place key parts.1 in
    (fate, ap (λ (p : TxnId × List ℕ). requests.Resolve p.0 p.1 fate) (λ i. (same i, there i)), refl)
told-by id key _ _ t = absurd cc

settled-one : (id : TxnId) (key : List ℕ) (h : Heard) → settles_key id key h ≡ true → WasResolved id key h
settled-one id key h t = let told = told-by id key h.request h.reply t in (told.0, record { asked = told.1; told = told.2 })

one-settled : (id : TxnId) (key : List ℕ) (h : Heard) → WasResolved id key h → settles_key id key h ≡ true
one-settled id key h was =
    subst (λ request. is_resolve_told id key request h.reply ≡ true) (sym was.1.asked)
    (subst (λ reply. is_resolve_told id key (requests.Resolve id key was.0) reply ≡ true) (sym was.1.told) (and_from (same_txn id id) (same_key key key) (itself id) (same_key-self key)))

-- the key was settled, by one of these replies
pub settled_iff : (id : TxnId) (key : List ℕ) (heard : List Heard) → (list_any (settles_key id key) heard ≡ true) ↔ Any (WasResolved id key) heard
settled_iff id key heard = (
  λ t. any_weaker (λ h. settles_key id key h ≡ true) (WasResolved id key) (settled-one id key) heard (Any-from_list_any (settles_key id key) heard t),
  λ a. list_any-from_Any (settles_key id key) heard (any_weaker (WasResolved id key) (λ h. settles_key id key h ≡ true) (one-settled id key) heard a),
)
