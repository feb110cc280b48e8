-- No wave is half heard where all that was sent was heard; and one message more leaves it so.
use Rattle.std.proofs.Common.{◌≡◌, inl, inr, All, Contains, IsTrue, List, [], ◌∷◌, ◌++◌, None, fold, sym, ap, subst, ◌∙◌}
use Rattle.std.proofs.lemmas.Grind.{fold-append}
use Rattle.std.proofs.lemmas.List.{append-nil, append_assoc, same_from_push}
use Rattle.std.proofs.lemmas.List.Elements.{All-contains, Contains-append_left}
use Rattle.pc_desk.proofs.Waves.{ending_of}
use Rattle.pc_history.specs.declared.pair.Pair.{Pair}
use Rattle.pc_lists.proofs.Lists.{all_from_contains}
use Rattle.pc_proto.specs.declared.event.Event.{Event}
use Rattle.pc_follows.specs.Proving.{IsAwaitedPut}
use Rattle.pc_follows.specs.WaveOrder.{AreAwaitedHeard, EndsPutWaves, EndsWaves, IsHeardOrPut, IsHearing}
use Rattle.pc_world.specs.Known.{Known, known_of, learn, nothing_known}
use Rattle.pc_world.specs.Known.Traffic.{Sent, sent_by}
use Rattle.pc_world.specs.Tell.Refusal.{is_heard}

-- What was sent since.
record HasSentMore (start k : Known) : Type 0 where
  more : List Sent
  whole : k.sent ≡ start.sent ++ more

sends-more : (back : List (Pair Event)) (k : Known) → HasSentMore k (fold (λ k p. learn p k) k back)
sends-more [] k = record { more = []; whole = sym (append-nil k.sent) }
sends-more (p ∷ back) k =
    let later = sends-more back (learn p k) in
    record { more = sent_by p.entry.event ++ later.more; whole = later.whole ∙ append_assoc k.sent (sent_by p.entry.event) later.more }

sent-since : (front back : List (Pair Event)) → HasSentMore (known_of front) (known_of (front ++ back))
sent-since front back = subst (HasSentMore (known_of front)) (sym (fold-append (λ (k : Known) (p : Pair Event). learn p k) nothing_known front back)) (sends-more back (known_of front))

-- what was sent before some entry was sent
sent_within : (own front back : List (Pair Event)) → own ≡ front ++ back → (m : Sent) → Contains (known_of front).sent m → Contains (known_of own).sent m
sent_within own front back whole m there =
    let since = sent-since front back in
    let is : (known_of own).sent ≡ (known_of front).sent ++ since.more = ap (λ (l : List (Pair Event)). (known_of l).sent) whole ∙ since.whole in
    subst (λ ms. Contains ms m) (sym is) (Contains-append_left (known_of front).sent since.more m there)

-- where all was heard, but for puts that were set aside, no wave is half heard
pub ends_where_heard : (own : List (Pair Event)) → All (IsHeardOrPut (known_of own).heard) (known_of own).sent → EndsWaves own
ends_where_heard own all front back p whole hears =
    all_from_contains (IsHeardOrPut (known_of own).heard) (known_of front).sent (λ m there. All-contains (IsHeardOrPut (known_of own).heard) (known_of own).sent m all (sent_within own front (p ∷ back) whole m there))

-- and where each put was heard for which the call waits, no wave of puts is
pub puts_where_heard : (own : List (Pair Event)) → AreAwaitedHeard (known_of own) (known_of own).sent → EndsPutWaves own
puts_where_heard own all front back p whole hears no_ask =
    let P : Sent → Type 0 = λ m. IsAwaitedPut (known_of own) m.request → IsTrue (is_heard (known_of own).heard m) in
    all_from_contains P (known_of front).sent (λ m there. All-contains P (known_of own).sent m all (sent_within own front (p ∷ back) whole m there))

-- between calls none is waited for
pub none_awaited : (k : Known) → k.statement ≡ None → (sent : List Sent) → AreAwaitedHeard k sent
none_awaited k closed sent = all_from_contains (λ m. IsAwaitedPut k m.request → IsTrue (is_heard k.heard m)) sent (λ m there awaited. absurd (let both = sym closed ∙ awaited.asked in cc both))

-- an entry that hears nothing, after which as much was heard, leaves none half heard
pub ends_on : (own : List (Pair Event)) (q : Pair Event) → (IsHearing q.entry.event → ⊥) → (known_of (own ++ q ∷ [])).heard ≡ (known_of own).heard → EndsWaves own → EndsWaves (own ++ q ∷ [])
ends_on own q hears_none same ends front back p whole hears = elim (ending_of back) [
  | inl none ↦
      let both = same_from_push own front q p (whole ∙ ap (λ l. front ++ (p ∷ l)) none) in
      absurd (hears_none (subst (λ (x : Pair Event). IsHearing x.entry.event) (sym both.1) hears))
  | inr some ↦
      let longer : own ++ q ∷ [] ≡ (front ++ (p ∷ some.front)) ++ some.last ∷ [] = whole ∙ (ap (λ l. front ++ (p ∷ l)) some.whole ∙ sym (append_assoc front (p ∷ some.front) (some.last ∷ []))) in
      let both = same_from_push own (front ++ (p ∷ some.front)) q some.last longer in
      subst (λ heard. All (IsHeardOrPut heard) (known_of front).sent) (sym same) (ends front some.front p both.0 hears)
]
