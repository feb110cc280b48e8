-- One step of a loop over a list.
use Rattle.std.proofs.Common.{◌≡◌, ℕ, zero, suc, ◌+◌, ◌<◌, List, [], ◌∷◌, ◌++◌, drop, length, map, slice_index_or, slice_set, take, refl, sym, ap, ◌∙◌, add-one, arith}
use Rattle.std.proofs.lemmas.List.{append_assoc}
use Rattle.std.proofs.lemmas.List.Elements.{filter-append}
use Rattle.pc_world.specs.Known.Reads.{Read, read_heard, reads_heard}
use Rattle.pc_world.specs.Known.Traffic.{Heard, Sent, is_reply_to_one, replies_to}

-- The list of which so many elements from the front are changed.
abbrev pub changed_to : {A : Type 0} → (A → A) → ℕ → List A → List A
changed_to f n xs = map f (take n xs) ++ drop n xs

next-changed : {A : Type 0} (f : A → A) (n : ℕ) (xs : List A) (d : A) → n < length xs → slice_set (changed_to f n xs) n (f (slice_index_or (changed_to f n xs) n d)) ≡ changed_to f (suc n) xs
next-changed f n [] d h = absurd (omega arith)
next-changed f zero (x ∷ xs) d h = refl
next-changed f (suc n) (x ∷ xs) d h = ap (λ ys. f x ∷ ys) (next-changed f n xs d (omega arith))

pub changed_length : {A : Type 0} (f : A → A) (n : ℕ) (xs : List A) → length (changed_to f n xs) ≡ length xs
changed_length f zero xs = refl
changed_length f (suc n) [] = refl
changed_length f (suc n) (x ∷ xs) = ap suc (changed_length f n xs)

-- one more element changed
pub next_changed : {A : Type 0} (f : A → A) (n : ℕ) (xs ys zs : List A) (d : A) → n < length xs → ys ≡ changed_to f n xs → zs ≡ slice_set ys n (f (slice_index_or ys n d)) → zs ≡ changed_to f (n + 1) xs
next_changed {A} f n xs ys zs d h before is =
    is ∙ ap (λ (vs : List A). slice_set vs n (f (slice_index_or vs n d))) before ∙ next-changed f n xs d h ∙ ap (λ m. changed_to f m xs) (sym (add-one n))

reads-append : (xs ys : List Heard) → reads_heard (xs ++ ys) ≡ reads_heard xs ++ reads_heard ys
reads-append [] ys = refl
reads-append (x ∷ xs) ys =
    ap (λ rs. read_heard x.request x.reply ++ rs) (reads-append xs ys) ∙ sym (append_assoc (read_heard x.request x.reply) (reads_heard xs) (reads_heard ys))

take-next : (n : ℕ) (xs : List Heard) (x : Heard) → n < length xs → x ≡ slice_index_or xs n x → take (suc n) xs ≡ take n xs ++ x ∷ []
take-next n [] x h is = absurd (omega arith)
take-next zero (y ∷ xs) x h is = ap (λ z. z ∷ []) (sym is)
take-next (suc n) (y ∷ xs) x h is = ap (λ zs. y ∷ zs) (take-next n xs x (omega arith) is)

-- what one more reply read
pub next_read : (sent : List Sent) (heard : List Heard) (n : ℕ) (h : Heard) (first so_far now : List Read) → n < length heard → h ≡ slice_index_or heard n h
    → so_far ≡ first ++ reads_heard (replies_to sent (take n heard)) → now ≡ so_far ++ reads_heard (replies_to sent (h ∷ [])) → now ≡ first ++ reads_heard (replies_to sent (take (n + 1) heard))
next_read sent heard n h first so_far now low is before one =
    one ∙ ap (λ rs. rs ++ reads_heard (replies_to sent (h ∷ []))) before
    ∙ append_assoc first (reads_heard (replies_to sent (take n heard))) (reads_heard (replies_to sent (h ∷ [])))
    ∙ ap (λ rs. first ++ rs) (sym (reads-append (replies_to sent (take n heard)) (replies_to sent (h ∷ []))))
    ∙ ap (λ hs. first ++ reads_heard hs) (sym (filter-append (is_reply_to_one sent) (take n heard) (h ∷ [])))
    ∙ ap (λ hs. first ++ reads_heard (replies_to sent hs)) (sym (take-next n heard h low is))
    ∙ ap (λ m. first ++ reads_heard (replies_to sent (take m heard))) (sym (add-one n))
