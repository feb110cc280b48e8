-- Of what is not heard, messages of one request went to one range, as more is sent and heard.
use Rattle.std.proofs.Common.{◌≡◌, ℕ, Bool, true, false, inl, inr, List, [], ◌∷◌, ◌++◌, refl, sym, subst, ◌∙◌, Contains, zero, suc, ◌⊎◌, ap, arith}
use Rattle.std.proofs.lemmas.List.Elements.{All-contains, Contains-append_cases}
use Rattle.pc_call.specs.Learned.{known_heard, known_sent}
use Rattle.pc_coord.proofs.Outbox.{still_heard}
use Rattle.pc_coord.specs.Ranged.{GoesWhereItWent, WentToOneRange}
use Rattle.pc_proto.specs.declared.request.Request.{Request}
use Rattle.pc_call.proofs.Eighths.{same_sym}
use Rattle.pc_world.specs.Known.{Known}
use Rattle.pc_world.specs.Known.Traffic.{Heard, Sent}
use Rattle.pc_world.specs.SameRequest.{IsSameRequest}
use Rattle.pc_world.specs.Tell.Refusal.{is_heard}

-- what is not heard later was not heard before
unheard_before : (m : Sent) (hs more hs2 : List Heard) → hs2 ≡ hs ++ more → is_heard hs2 m ≡ false → is_heard hs m ≡ false
unheard_before m hs more hs2 is none = by (is_heard hs m) refl
  where
    by : (b : Bool) → is_heard hs m ≡ b → is_heard hs m ≡ false
    by false e = e
    by true e = let f : false ≡ true = sym none ∙ still_heard m hs more hs2 is e in absurd cc

pub one_range_heard : (k : Known) (h : Heard) → WentToOneRange k → WentToOneRange (known_heard h k)
one_range_heard k h went one other there too here now own same =
    went one other there too (unheard_before one k.heard (h ∷ []) (k.heard ++ h ∷ []) refl here) (unheard_before other k.heard (h ∷ []) (k.heard ++ h ∷ []) refl now) own same

last_one : (m x : Sent) → Contains (m ∷ []) x → m ≡ x
last_one m x (zero, low, same) = same
last_one m x (suc n, low, same) = absurd (omega (arith, low))

-- a message goes where those of its request went
pub one_range_sent : (k : Known) (number range : ℕ) (request : Request) → GoesWhereItWent range request k.sent → WentToOneRange k → WentToOneRange (known_sent number range request k)
one_range_sent k number range request goes went one other there too here now own same = by (Contains-append_cases k.sent (new ∷ []) one there) (Contains-append_cases k.sent (new ∷ []) other too)
  where
    new : Sent
    new = record { number = number; range = range; request = request }

    Same : Sent → Type 0
    Same m = IsSameRequest request m.request → m.range ≡ range

    by : Contains k.sent one ⊎ Contains (new ∷ []) one → Contains k.sent other ⊎ Contains (new ∷ []) other → one.range ≡ other.range
    by (inl a) (inl b) = went one other a b here now own same
    by (inl a) (inr b) =
        let is : new ≡ other = last_one new other b in
        All-contains Same k.sent one goes a (same_sym one.request request (subst (λ (m : Sent). IsSameRequest one.request m.request) (sym is) same)) ∙ ap (λ (m : Sent). m.range) is
    by (inr a) (inl b) =
        let is : new ≡ one = last_one new one a in
        sym (ap (λ (m : Sent). m.range) is) ∙ sym (All-contains Same k.sent other goes b (subst (λ (m : Sent). IsSameRequest m.request other.request) (sym is) same))
    by (inr a) (inr b) = ap (λ (m : Sent). m.range) (sym (last_one new one a) ∙ last_one new other b)
