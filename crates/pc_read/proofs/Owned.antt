-- The items of a list, read one after the other into memory of their own.
use Rattle.std.proofs.Common.{◌≡◌, ℕ, ◌+◌, Bool, true, false, cond, ◌==◌, ◌&&◌, List, [], ◌∷◌, ◌++◌, length, Option, None, Some, option_map, option_and_then, is_some, IsSome, refl, sym, ap, ◌∙◌, append_assoc}
use Rattle.std.specs.List.{slice_split}
use Rattle.pc_base.specs.Rising.{keys_rise}
use Rattle.pc_spelling.specs.Cutting.{cut, each_at}
use Rattle.pc_spelling.specs.Reading.{key_at, number32_at}
use Rattle.pc_spelling.specs.ReadingHead.{splits_at}
use Rattle.pc_read.specs.Texts.{splits_in}
use Rattle.pc_read.proofs.Items.{parts_cut, parts_whole, shorter_cut}

-- The items so far, and those that the rest spells, are what the whole spells.
pub record IsReadSoFar {A : Type 0} (read : List ℕ → Option A) (byte : ℕ) (whole : List ℕ) (items : List A) (rest : List ℕ) : Type 0 where
  pub same : option_map (λ (more : List A). items ++ more) (each_at read (slice_split (λ b. b == byte) rest)) ≡ each_at read (slice_split (λ b. b == byte) whole)
  pub there : IsSome (each_at read (slice_split (λ b. b == byte) rest))

unmapped : {A : Type 0} (o : Option A) → option_map (λ (x : A). x) o ≡ o
unmapped None = refl
unmapped (Some x) = refl

pub none_so_far : {A : Type 0} (read : List ℕ → Option A) (byte : ℕ) (whole : List ℕ) → IsSome (each_at read (slice_split (λ b. b == byte) whole)) → IsReadSoFar read byte whole [] whole
none_so_far read byte whole there = record { same = unmapped (each_at read (slice_split (λ b. b == byte) whole)); there = there }

first_there : {A B : Type 0} (o : Option A) (f : A → Option B) → IsSome (option_and_then f o) → IsSome o
first_there None f h = h
first_there (Some x) f h = refl

rest_there : {A : Type 0} (x : A) (o : Option A) (rest : Option (List A)) → o ≡ Some x → IsSome (option_and_then (λ (first : A). option_map (λ (below : List A). first ∷ below) rest) o) → IsSome rest
rest_there x None rest e h = absurd cc
rest_there x (Some y) None e h = h
rest_there x (Some y) (Some ys) e h = refl

one_more : {A : Type 0} (items : List A) (x : A) (o : Option A) (rest : Option (List A)) → o ≡ Some x → option_map (λ (more : List A). items ++ more) (option_and_then (λ (first : A). option_map (λ (below : List A). first ∷ below) rest) o) ≡ option_map (λ (more : List A). (items ++ x ∷ []) ++ more) rest
one_more items x None rest e = absurd cc
one_more items x (Some y) None e = refl
one_more items x (Some y) (Some ys) e =
    let same : y ≡ x = cc in
    rw same (ap Some (sym (append_assoc items (x ∷ []) ys)))

-- The first item of the rest is there, where it is cut.
pub item_there : {A : Type 0} (read : List ℕ → Option A) (byte : ℕ) (whole : List ℕ) (items : List A) (rest text behind : List ℕ) → IsReadSoFar read byte whole items rest → cut byte rest ≡ Some (text, behind) → IsSome (read text)
item_there {A} read byte whole items rest text behind so_far e =
    first_there (read text) (λ (first : A). option_map (λ (below : List A). first ∷ below) (each_at read (slice_split (λ b. b == byte) behind))) (sym (ap (λ (parts : List (List ℕ)). is_some (each_at read parts)) (parts_cut byte rest text behind e)) ∙ so_far.there)

-- The same of the last item, which is not cut.
pub last_there : {A : Type 0} (read : List ℕ → Option A) (byte : ℕ) (whole : List ℕ) (items : List A) (rest : List ℕ) → IsReadSoFar read byte whole items rest → cut byte rest ≡ None → IsSome (read rest)
last_there {A} read byte whole items rest so_far e =
    first_there (read rest) (λ (first : A). option_map (λ (below : List A). first ∷ below) (Some [])) (sym (ap (λ (parts : List (List ℕ)). is_some (each_at read parts)) (parts_whole byte rest e)) ∙ so_far.there)

-- One more item is read.
pub one_read : {A : Type 0} (read : List ℕ → Option A) (byte : ℕ) (whole : List ℕ) (items : List A) (rest text behind : List ℕ) (x : A) → IsReadSoFar read byte whole items rest → cut byte rest ≡ Some (text, behind) → read text ≡ Some x → IsReadSoFar read byte whole (items ++ x ∷ []) behind
one_read {A} read byte whole items rest text behind x so_far e given =
    let below = each_at read (slice_split (λ b. b == byte) behind) in
    let parts = parts_cut byte rest text behind e in
    record {
      same = sym (one_more items x (read text) below given) ∙ sym (ap (λ (ps : List (List ℕ)). option_map (λ (more : List A). items ++ more) (each_at read ps)) parts) ∙ so_far.same;
      there = rest_there x (read text) below given (sym (ap (λ (ps : List (List ℕ)). is_some (each_at read ps)) parts) ∙ so_far.there);
    }

-- The last item is read, and with it the whole.
pub all_read : {A : Type 0} (read : List ℕ → Option A) (byte : ℕ) (whole : List ℕ) (items : List A) (rest : List ℕ) (x : A) → IsReadSoFar read byte whole items rest → cut byte rest ≡ None → read rest ≡ Some x → each_at read (slice_split (λ b. b == byte) whole) ≡ Some (items ++ x ∷ [])
all_read {A} read byte whole items rest x so_far e given =
    sym so_far.same
    ∙ ap (λ (ps : List (List ℕ)). option_map (λ (more : List A). items ++ more) (each_at read ps)) (parts_whole byte rest e)
    ∙ ap (λ (o : Option A). option_map (λ (more : List A). items ++ more) (option_and_then (λ (first : A). Some (first ∷ [])) o)) given

-- ---- the split keys

some_parts : {A B : Type 0} (o : Option A) (f : A → Option B) → IsSome (option_and_then f o) → (x : A) × (o ≡ Some x) × IsSome (f x)
some_parts None f h = absurd cc
some_parts (Some x) f h = (x, refl, h)

chosen_some : {A : Type 0} (b : Bool) (x : A) → IsSome (cond b (Some x) None) → b ≡ true
chosen_some true x h = refl
chosen_some false x h = absurd cc

-- The keys, where there is one more range than there are keys, and they rise.
abbrev if_right : ℕ → List (List ℕ) → Option (List (List ℕ))
if_right n splits = cond (n == length splits + 1 && keys_rise splits) (Some splits) None

abbrev if_counted : List (List ℕ) → ℕ → Option (List (List ℕ))
if_counted keys n = option_and_then (if_right n) (each_at key_at keys)

keys_of_splits : (count : List ℕ) (keys : List (List ℕ)) → IsSome (splits_at (count ∷ keys)) → IsSome (each_at key_at keys) × (splits_at (count ∷ keys) ≡ each_at key_at keys)
unfolding splits_at
keys_of_splits count keys h =
    let one = some_parts (number32_at count) (if_counted keys) h in
    let other = some_parts (each_at key_at keys) (if_right one.0) one.2 in
    let test = chosen_some (one.0 == length other.0 + 1 && keys_rise other.0) other.0 other.2 in (
      ap is_some other.1,
      ap (option_and_then (if_counted keys)) one.1
          ∙ ap (option_and_then (if_right one.0)) other.1
          ∙ ap (λ (b : Bool). cond b (Some other.0) None) test
          ∙ sym other.1,
    )

pub no_splits : (bytes : List ℕ) → IsSome (splits_in bytes) → cut 32 bytes ≡ None → splits_in bytes ≡ Some []
no_splits bytes h e =
    let parts = parts_whole 32 bytes e in
    let there : IsSome (splits_at (bytes ∷ [])) = sym (ap (λ (ps : List (List ℕ)). is_some (splits_at ps)) parts) ∙ h in
    ap splits_at parts ∙ (keys_of_splits bytes [] there).1

pub more_splits : (bytes count keys : List ℕ) → IsSome (splits_in bytes) → cut 32 bytes ≡ Some (count, keys) → IsSome (each_at key_at (slice_split (λ b. b == 32) keys)) × (splits_in bytes ≡ each_at key_at (slice_split (λ b. b == 32) keys))
more_splits bytes count keys h e =
    let parts = parts_cut 32 bytes count keys e in
    let there : IsSome (splits_at (count ∷ slice_split (λ b. b == 32) keys)) = sym (ap (λ (ps : List (List ℕ)). is_some (splits_at ps)) parts) ∙ h in
    let below = keys_of_splits count (slice_split (λ b. b == 32) keys) there in
    (below.0, ap splits_at parts ∙ below.1)

pub ruleset owned_parts = (none_so_far, item_there, last_there, one_read, all_read, shorter_cut)
