-- How far a span is known to be refreshed, reply by reply.
use Rattle.std.proofs.Common.{◌≡◌, ℕ, ◌≤◌, max, nat_le, Bool, true, false, cond, if◌then◌else◌, Contains, List, [], ◌∷◌, ◌++◌, fold, Option, None, Some, refl, sym, ap, subst, ◌∙◌, arith}
use Rattle.std.proofs.lemmas.Bool.{and_parts, leb-true}
use Rattle.std.proofs.lemmas.List.Elements.{Contains-append_left}
use Rattle.std.proofs.lemmas.List.Sums.{fold-append}
use Rattle.std.specs.Ordering.{is_eq, ordering_then}
use Rattle.std.specs.declared.cmp.Ordering.{Ordering}
use Rattle.std.specs.declared.cmp.Ordering.TheVariants.{Less, Equal, Greater}
use Rattle.pc_base.proofs.TxnOrder.{txn_equal}
use Rattle.pc_base.specs.declared.span.Span.{Span}
use Rattle.pc_base.specs.declared.transaction.TxnId.{TxnId}
use Rattle.pc_base.specs.SpanOrder.{span_cmp}
use Rattle.pc_base.specs.Transaction.{txn_cmp}
use Rattle.pc_files.proofs.Narrow.{same_is}
use Rattle.pc_files.specs.declared.refreshed.RefreshedSpans.{RefreshedSpans}
use Rattle.pc_files.specs.RefreshedSpans.{TakesFurther, is_refreshed, leads_from, txn_span_cmp, way_by, way_further, way_heard, way_of}
use Rattle.pc_lists.proofs.Lists.{contains_head, contains_tail}
use Rattle.pc_own.proofs.SpansRead.{holds_self, span_is}
use Rattle.pc_proto.specs.declared.reply.Reply.{Reply}
use Rattle.pc_proto.specs.declared.reply.Reply.TheVariants as replies
use Rattle.pc_proto.specs.declared.request.Request.{Request}
use Rattle.pc_proto.specs.declared.request.Request.TheVariants as requests
use Rattle.pc_world.specs.Known.Reads.{AtOnce, Further, IsGoodTo, WasRefreshed}
use Rattle.pc_world.specs.Known.Traffic.{Heard}

module _ (id : TxnId) (heard more : List Heard) where
  -- it is good so far whatever else is heard
  pub good_more : (span : Span) (ts good : ℕ) → IsGoodTo id heard span ts good → IsGoodTo id (heard ++ more) span ts good
  good_more span ts good AtOnce = AtOnce
  good_more span ts good (Further at wider from to g r holds low) =
      Further at wider from to (good_more span ts at g) (record { reply = r.reply; listed = Contains-append_left heard more r.reply r.listed; asked = r.asked; told = r.told }) holds low

then-parts : (one other : Ordering) → is_eq (ordering_then one other) ≡ true → (is_eq one ≡ true) × (is_eq other ≡ true)
then-parts Less other e = absurd cc
then-parts Equal other e = (refl, e)
then-parts Greater other e = absurd cc

place_is : (id other : TxnId) (span place : Span) → is_eq (txn_span_cmp (id, span) (other, place)) ≡ true → (id ≡ other) × (span ≡ place)
place_is id other span place e =
    let parts = then-parts (txn_cmp id other) (span_cmp span place) e in
    (same_is id other (sym (txn_equal id other) ∙ parts.0), span_is span place parts.1)

-- a read that was made later is good as far
pub good_later : (id : TxnId) (heard : List Heard) (span : Span) (ts later good : ℕ) → ts ≤ later → IsGoodTo id heard span ts good → (other : ℕ) × IsGoodTo id heard span later other × (good ≤ other)
good_later id heard span ts later good low AtOnce = (later, AtOnce, low)
good_later id heard span ts later good low (Further at wider from to g r holds far) =
    let m = good_later id heard span ts later at low g in
    let rises = m.2 in
    (max m.0 to, Further m.0 wider from to m.1 r holds (omega (arith, far, rises)), omega (arith, rises))

-- ---- a way is one by which reads are good

module _ (id : TxnId) (span : Span) (heard : List Heard) where
  -- A read of the span that was made where this way begins is good to where it ends.
  abbrev IsGoodWay : Option (ℕ × ℕ) → Type 0
  IsGoodWay way = (w : ℕ × ℕ) → way ≡ Some w → IsGoodTo id heard span w.0 w.1

  some-good : (w : ℕ × ℕ) → IsGoodTo id heard span w.0 w.1 → IsGoodWay (Some w)
  some-good w good v is = let same : w ≡ v = cc in subst (λ (x : ℕ × ℕ). IsGoodTo id heard span x.0 x.1) same good

  module _ (from to : ℕ) (was : WasRefreshed id heard span from to) where
    anew : IsGoodTo id heard span from (max from to)
    anew = Further from span from to AtOnce was (holds_self span) (omega arith)

    further-good : (way : Option (ℕ × ℕ)) → IsGoodWay way → IsGoodWay (Some (way_further way from to))
    further-good None good = some-good (from, max from to) anew
    further-good (Some w) good = by (nat_le from w.1) refl
      where
        by : (b : Bool) → nat_le from w.1 ≡ b → IsGoodWay (Some (if b then (w.0, max w.1 to) else (from, max from to)))
        by true low = some-good (w.0, max w.1 to) (Further w.1 span from to (good w refl) was (holds_self span) (leb-true from w.1 low))
        by false low = some-good (from, max from to) anew

  heard-good : (h : Heard) → Contains heard h → (way : Option (ℕ × ℕ)) → IsGoodWay way → IsGoodWay (way_by id span way h.request h.reply)
  heard-good h listed way good = by h.request h.reply refl refl
    where
      at : (other : TxnId) (place : Span) (from to : ℕ) → h.request ≡ requests.Refresh other from to place → h.reply ≡ replies.Refreshed
          → (b : Bool) → is_eq (txn_span_cmp (other, place) (id, span)) ≡ b → IsGoodWay (if b then Some (way_further way from to) else way)
      at other place from to asked told true e =
          let same = place_is other id place span e in
          let was : WasRefreshed other heard place from to = record { reply = h; listed = listed; asked = asked; told = told } in
          further-good from to (subst (λ (s : Span). WasRefreshed id heard s from to) same.1 (subst (λ (i : TxnId). WasRefreshed i heard place from to) same.0 was)) way good
      at other place from to asked told false e = good

      by : (request : Request) (reply : Reply) → h.request ≡ request → h.reply ≡ reply → IsGoodWay (way_by id span way request reply)
      by (requests.Refresh other from to place) replies.Refreshed asked told = at other place from to asked told (is_eq (txn_span_cmp (other, place) (id, span))) refl
      by _ _ asked told = good

  ways-good : (rest : List Heard) → ((h : Heard) → Contains rest h → Contains heard h) → (way : Option (ℕ × ℕ)) → IsGoodWay way
      → IsGoodWay (fold (λ way h. way_by id span way h.request h.reply) way rest)
  ways-good [] inside way good = good
  ways-good (h ∷ rest) inside way good =
      ways-good rest (λ x c. inside x (contains_tail h rest x c)) (way_by id span way h.request h.reply) (heard-good h (inside h (contains_head h rest)) way good)

  way-good : IsGoodWay (way_heard id span heard)
  way-good = ways-good heard (λ h c. c) None (λ w none. absurd cc)

  -- a read that is refreshed so far is good so far
  pub refreshed_good : (ts to : ℕ) → is_refreshed id span ts to heard ≡ true → (good : ℕ) × IsGoodTo id heard span ts good × (to ≤ good)
  refreshed_good ts to on = by (way_heard id span heard) refl on
    where
      by : (way : Option (ℕ × ℕ)) → way_heard id span heard ≡ way → leads_from ts to way ≡ true → (good : ℕ) × IsGoodTo id heard span ts good × (to ≤ good)
      by None is on = absurd cc
      by (Some w) is on =
          let parts = and_parts (nat_le w.0 ts) (nat_le to w.1) on in
          let far = leb-true to w.1 parts.1 in
          let m = good_later id heard span w.0 ts w.1 (leb-true w.0 ts parts.0) (way-good w is) in
          let rises = m.2 in
          (m.0, m.1, omega (arith, far, rises))

-- ---- one more reply

-- a refresh takes the way of its span further, and leaves the others
pub taken_further : (id : TxnId) (span : Span) (from to : ℕ) (old new : RefreshedSpans) → TakesFurther id span from to old new → (other : TxnId) (place : Span)
    → way_of other place new ≡ way_by other place (way_of other place old) (requests.Refresh id from to span) replies.Refreshed
taken_further id span from to old new takes other place = takes other place ∙ by (is_eq (txn_span_cmp (id, span) (other, place))) refl
  where
    by : (b : Bool) → is_eq (txn_span_cmp (id, span) (other, place)) ≡ b
        → cond b (Some (way_further (way_of id span old) from to)) (way_of other place old) ≡ (if b then Some (way_further (way_of other place old) from to) else way_of other place old)
    by true e =
        let same = place_is id other span place e in
        ap (λ (way : Option (ℕ × ℕ)). Some (way_further way from to)) (ap (λ (i : TxnId). way_of i span old) same.0 ∙ ap (λ (s : Span). way_of other s old) same.1)
    by false e = refl

-- the way that the replies tell, with one more
pub way_after : (id : TxnId) (span : Span) (heard : List Heard) (h : Heard) → way_by id span (way_heard id span heard) h.request h.reply ≡ way_heard id span (heard ++ h ∷ [])
way_after id span heard h = sym (fold-append (λ (way : Option (ℕ × ℕ)) (h : Heard). way_by id span way h.request h.reply) None heard (h ∷ []))
