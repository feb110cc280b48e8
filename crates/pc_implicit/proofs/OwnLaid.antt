-- What a transaction's own intent at a key has of its writes there, and how a put of the transaction keeps that.
use Rattle.std.proofs.Common.{◌≡◌, ℕ, ◌<◌, ◌≤◌, max, nat_le, nat_lt, Bool, true, false, cond, ◌==◌, ◌&&◌, ◌||◌, ◌⊎◌, inl, inr, List, [], ◌∷◌, ◌++◌, Option, None, Some, Contains, refl, sym, ap, subst, ◌∙◌, arith}
use Rattle.std.proofs.lemmas.Bool.{and_cases, and_parts, eq-eqb, eqb-true, leb-false, leb-true, ltb-false, ltb-true, or_parts}
use Rattle.std.proofs.lemmas.List.{append_assoc}
use Rattle.std.proofs.lemmas.List.Elements.{Contains-append_left}
use Rattle.std.specs.List.{AllByRecursion as Each}
use Rattle.pc_implicit.proofs.WriteLists.{Laid, RiseAt, each_low, fronts_meet, last_low, last_push, rise_later}
use Rattle.pc_implicit.specs.Decided.{time_of}
use Rattle.pc_lists.proofs.Each.{each-append, each-front, each-weaker}
use Rattle.pc_lists.proofs.Lists.{contains_head}
use Rattle.pc_proto.specs.declared.meta.TxnMeta.{TxnMeta}
use Rattle.pc_proto.specs.declared.record.Intent.{Intent}
use Rattle.pc_proto.specs.Intents.{fresh, grown, last_seq}
use Rattle.pc_proto.specs.Place.{Place}
use Rattle.pc_world.specs.Evaluation.Put.{is_overtaken_by, laid, overtaken}

-- The intent is of this epoch or an earlier one; if of this one, each of its writes is one of these, and it has one.
pub record IsAmong (epoch : ℕ) (all : List Laid) (i : Intent) : Type 0 where
  pub low : i.meta.epoch ≤ epoch
  pub some : i.meta.epoch ≡ epoch → (x : Laid) × Contains i.history x
  pub each : i.meta.epoch ≡ epoch → Each (λ x. Contains all x) i.history

-- The intent has the first of these writes, and the others are later.
pub record HasFront (all : List Laid) (i : Intent) : Type 0 where
  pub rest : List Laid
  pub whole : i.history ++ rest ≡ all
  pub above : Each (λ x. last_seq i < x.0) rest

-- The write stands in the intent, which lies no higher than where it was written or the record has gone, while it is the last one.
pub record StandsIn (epoch : ℕ) (home : Place) (seq ts : ℕ) (i : Intent) : Type 0 where
  pub epoch_is : i.meta.epoch ≡ epoch
  pub has : seq ≤ last_seq i
  pub low : last_seq i ≤ seq → i.ts ≤ max ts (time_of home)

pub not_overtaken : (meta : TxnMeta) (seq : ℕ) (i : Intent) → is_overtaken_by meta seq i ≡ false → (i.meta.epoch ≤ meta.epoch) × (i.meta.epoch ≡ meta.epoch → last_seq i < seq)
not_overtaken meta seq i over =
    let parts = or_parts (nat_lt meta.epoch i.meta.epoch) (i.meta.epoch == meta.epoch && nat_le seq (last_seq i)) over in (
      ltb-false meta.epoch i.meta.epoch parts.0,
      λ same. elim (and_cases (i.meta.epoch == meta.epoch) (nat_le seq (last_seq i)) parts.1) [
        | inl differ ↦ let both : true ≡ false = sym (eq-eqb i.meta.epoch meta.epoch same) ∙ differ in absurd cc
        | inr past ↦ leb-false seq (last_seq i) past
      ],
    )

pub is_overtaken : (meta : TxnMeta) (seq : ℕ) (i : Intent) → is_overtaken_by meta seq i ≡ true → (meta.epoch < i.meta.epoch) ⊎ ((i.meta.epoch ≡ meta.epoch) × (seq ≤ last_seq i))
is_overtaken meta seq i over = by (nat_lt meta.epoch i.meta.epoch) refl over
  where
    by : (b : Bool) → nat_lt meta.epoch i.meta.epoch ≡ b → (b || (i.meta.epoch == meta.epoch && nat_le seq (last_seq i))) ≡ true → (meta.epoch < i.meta.epoch) ⊎ ((i.meta.epoch ≡ meta.epoch) × (seq ≤ last_seq i))
    by true less over = inl (ltb-true meta.epoch i.meta.epoch less)
    by false less over =
        let parts = and_parts (i.meta.epoch == meta.epoch) (nat_le seq (last_seq i)) over in
        inr (eqb-true i.meta.epoch meta.epoch parts.0, leb-true seq (last_seq i) parts.1)

pub grown_last : (seq ts : ℕ) (value : Option (List ℕ)) (i : Intent) → last_seq (grown seq ts value i) ≡ max (last_seq i) seq
grown_last seq ts value i = last_push i.history (seq, value)

-- how the intent that a put lays came about: it grew, or it is a new one
pub data Lays (meta : TxnMeta) (seq ts : ℕ) (value : Option (List ℕ)) (own : Option Intent) : Type 0 where
  Grows : (i : Intent) → own ≡ Some i → i.meta.epoch ≡ meta.epoch → laid meta seq ts value own ≡ grown seq ts value i → Lays meta seq ts value own
  Begins : ((i : Intent) → own ≡ Some i → i.meta.epoch ≡ meta.epoch → ⊥) → laid meta seq ts value own ≡ fresh meta seq ts value → Lays meta seq ts value own

pub how_laid : (meta : TxnMeta) (seq ts : ℕ) (value : Option (List ℕ)) (own : Option Intent) → Lays meta seq ts value own
how_laid meta seq ts value None = Begins (λ i is same. absurd cc) refl
how_laid meta seq ts value (Some i) = by (i.meta.epoch == meta.epoch) refl
  where
    by : (b : Bool) → (i.meta.epoch == meta.epoch) ≡ b → Lays meta seq ts value (Some i)
    by true same = Grows i refl (eqb-true i.meta.epoch meta.epoch same) (ap (λ b. cond b (grown seq ts value i) (fresh meta seq ts value)) same)
    by false differ =
        Begins
        (λ j is same. let own : i ≡ j = cc in
        let both : false ≡ true = sym differ ∙ eq-eqb i.meta.epoch meta.epoch (ap (λ (x : Intent). x.meta.epoch) own ∙ same) in absurd cc)
        (ap (λ b. cond b (grown seq ts value i) (fresh meta seq ts value)) differ)

-- An own intent before a put of the transaction, of an epoch up to this one; if of this one, the put lays one of these writes.
module _ (epoch : ℕ) (all : List Laid) (meta : TxnMeta) (seq ts : ℕ) (value : Option (List ℕ)) (own : Option Intent)
    (reached : meta.epoch ≤ epoch) (lays : meta.epoch ≡ epoch → Contains all (seq, value)) where
  -- the intent that it lays is among them
  pub laid_among : ((i : Intent) → own ≡ Some i → IsAmong epoch all i) → IsAmong epoch all (laid meta seq ts value own)
  laid_among among =
      elim (how_laid meta seq ts value own) [
        | Grows i is same eq ↦
            let a = among i is in
            subst (IsAmong epoch all) (sym eq) (record {
              low = a.low;
              some = λ now. let x = a.some now in (x.0, Contains-append_left i.history ((seq, value) ∷ []) x.0 x.1);
              each = λ now. each-append (λ x. Contains all x) i.history ((seq, value) ∷ []) (a.each now) (lays (sym same ∙ now), tt);
            })
        | Begins none eq ↦
            subst (IsAmong epoch all) (sym eq) (record {
              low = reached;
              some = λ now. ((seq, value), contains_head (seq, value) []);
              each = λ now. (lays now, tt);
            })
      ]

  -- a write of this epoch that stood stands in it
  pub laid_stands : (home : Place) (before at : ℕ) (i : Intent) → own ≡ Some i → overtaken meta seq own ≡ false → StandsIn epoch home before at i → StandsIn epoch home before at (laid meta seq ts value own)
  laid_stands home before at i is over s =
      let free = not_overtaken meta seq i (ap (overtaken meta seq) (sym is) ∙ over) in
      let epochs = s.epoch_is in
      let high = free.0 in
      let same : i.meta.epoch ≡ meta.epoch = omega (arith, reached, epochs, high) in
      let past : last_seq i < seq = free.1 same in
      let has = s.has in
      elim (how_laid meta seq ts value own) [
        | Grows j own_is also eq ↦
            let one : j ≡ i = let both : Some j ≡ Some i = sym own_is ∙ is in cc in
            let last : last_seq (grown seq ts value j) ≡ max (last_seq i) seq = grown_last seq ts value j ∙ ap (λ (x : Intent). max (last_seq x) seq) one in
            subst (StandsIn epoch home before at) (sym eq) (record {
              epoch_is = ap (λ (x : Intent). x.meta.epoch) one ∙ s.epoch_is;
              has = omega (arith, last, has, past);
              low = λ up. absurd (omega (arith, last, has, past, up));
            })
        | Begins none eq ↦ absurd (none i is same)
      ]

  -- the put itself stands in it
  pub laid_itself : (home : Place) → meta.epoch ≡ epoch → StandsIn epoch home seq ts (laid meta seq ts value own)
  laid_itself home now =
      elim (how_laid meta seq ts value own) [
        | Grows i is same eq ↦
            let last : last_seq (grown seq ts value i) ≡ max (last_seq i) seq = grown_last seq ts value i in
            subst (StandsIn epoch home seq ts) (sym eq) (record { epoch_is = same ∙ now; has = omega (arith, last); low = λ up. omega arith })
        | Begins none eq ↦
            subst (StandsIn epoch home seq ts) (sym eq) (record { epoch_is = now; has = omega arith; low = λ up. omega arith })
      ]

  -- it has a front of the writes, where those before this one stood
  pub laid_front : (front later : List Laid) → all ≡ front ++ (seq, value) ∷ later → RiseAt 0 all
      → Each (λ x. (i : Intent) × (own ≡ Some i) × (i.meta.epoch ≡ epoch) × (x.0 ≤ last_seq i)) front
      → ((i : Intent) → own ≡ Some i → i.meta.epoch ≡ epoch → HasFront all i)
      → overtaken meta seq own ≡ false → (laid meta seq ts value own).meta.epoch ≡ epoch → HasFront all (laid meta seq ts value own)
  laid_front front later split rise stood has over now =
      elim (how_laid meta seq ts value own) [
        | Grows i is same eq ↦
            let epochs : i.meta.epoch ≡ epoch = ap (λ (x : Intent). x.meta.epoch) (sym eq) ∙ now in
            let f = has i is epochs in
            let past : last_seq i < seq = (not_overtaken meta seq i (ap (overtaken meta seq) (sym is) ∙ over)).1 same in
            let low : Each (λ (x : Laid). x.0 ≤ last_seq i) front =
            each-weaker (λ x. (i : Intent) × (own ≡ Some i) × (i.meta.epoch ≡ epoch) × (x.0 ≤ last_seq i)) (λ x. x.0 ≤ last_seq i)
            (λ x h. let one : Some h.0 ≡ Some i = sym h.1 ∙ is in let j : h.0 ≡ i = cc one in subst (λ (y : Intent). x.0 ≤ last_seq y) j h.3) front stood in
            let meet = fronts_meet (last_seq i) i.history f.rest front later (seq, value) (f.whole ∙ split) (each_low i.history) f.above low past in
            let last : last_seq (grown seq ts value i) ≡ seq = let l = grown_last seq ts value i in l ∙ omega (arith, past) in
            subst (HasFront all) (sym eq) (record {
              rest = later;
              whole = append_assoc i.history ((seq, value) ∷ []) later ∙ ap (λ l. i.history ++ l) (sym meet.1) ∙ f.whole;
              above = subst (λ n. Each (λ (x : Laid). n < x.0) later) (sym last) (rise_later 0 front (seq, value) later (subst (RiseAt 0) split rise));
            })
        | Begins none eq ↦
            let made : meta.epoch ≡ epoch = ap (λ (x : Intent). x.meta.epoch) (sym eq) ∙ now in
            let nothing : front ≡ [] = empty none made front stood in
            let whole : all ≡ (seq, value) ∷ later = split ∙ ap (λ l. l ++ (seq, value) ∷ later) nothing in
            let last : last_seq (fresh meta seq ts value) ≡ seq = omega arith in
            subst (HasFront all) (sym eq) (record {
              rest = later;
              whole = sym whole;
              above = subst (λ n. Each (λ (x : Laid). n < x.0) later) (sym last) (rise_later 0 [] (seq, value) later (subst (RiseAt 0) whole rise));
            })
      ]
    where
      empty : ((i : Intent) → own ≡ Some i → i.meta.epoch ≡ meta.epoch → ⊥) → meta.epoch ≡ epoch → (front : List Laid) → Each (λ x. (i : Intent) × (own ≡ Some i) × (i.meta.epoch ≡ epoch) × (x.0 ≤ last_seq i)) front → front ≡ []
      empty none made [] stood = refl
      empty none made (x ∷ front) stood = let h = stood.0 in absurd (none h.0 h.1 (h.2 ∙ sym made))

-- an intent keeps a front of the writes when later ones come
pub front_longer : (n : ℕ) (all more : List Laid) (i : Intent) → Each (λ x. x.0 ≤ n) all → Each (λ x. n < x.0) more → HasFront all i → HasFront (all ++ more) i
front_longer n all more i low high f =
    let own : Each (λ (x : Laid). x.0 ≤ n) i.history = each-front (λ (x : Laid). x.0 ≤ n) i.history f.rest (subst (Each (λ (x : Laid). x.0 ≤ n)) (sym f.whole) low) in
    let last : last_seq i ≤ n = last_low n 0 i.history (omega arith) own in
    record {
      rest = f.rest ++ more;
      whole = sym (append_assoc i.history f.rest more) ∙ ap (λ l. l ++ more) f.whole;
      above =
          each-append (λ (x : Laid). last_seq i < x.0) f.rest more f.above
          (each-weaker (λ (x : Laid). n < x.0) (λ (x : Laid). last_seq i < x.0) (λ x above. omega (arith, last, above)) more high);
    }

-- so do those that are among them
pub among_longer : (epoch : ℕ) (all more : List Laid) (i : Intent) → IsAmong epoch all i → IsAmong epoch (all ++ more) i
among_longer epoch all more i a = record {
  low = a.low;
  some = a.some;
  each = λ now. each-weaker (λ (x : Laid). Contains all x) (λ x. Contains (all ++ more) x) (λ x there. Contains-append_left all more x there) i.history (a.each now);
}

-- an intent that was moved no further than its record
pub moved_stands : (epoch : ℕ) (home : Place) (seq ts at : ℕ) (i : Intent) → at ≤ time_of home → StandsIn epoch home seq ts i → StandsIn epoch home seq ts (record i { ts = max i.ts at })
moved_stands epoch home seq ts at i low s = record {
  epoch_is = s.epoch_is;
  has = s.has;
  low = λ up. let high : i.ts ≤ max ts (time_of home) = s.low up in omega (arith, low, high);
}

pub stands_later : (epoch : ℕ) (home later : Place) (seq ts : ℕ) (i : Intent) → time_of home ≤ time_of later → StandsIn epoch home seq ts i → StandsIn epoch later seq ts i
stands_later epoch home later seq ts i rises s = record {
  epoch_is = s.epoch_is;
  has = s.has;
  low = λ up. let high : i.ts ≤ max ts (time_of home) = s.low up in omega (arith, high, rises);
}
