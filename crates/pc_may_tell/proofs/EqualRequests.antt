-- The derived test of two requests decides whether they are equal.
use Rattle.std.proofs.Common.{◌≡◌, ◌==◌, ◌&&◌, ℕ, Bool, false, true, List, Option, None, Some, refl, ap, sym, ◌∙◌, subst, arith, is_eq, nat_cmp}
use Rattle.std.proofs.lemmas.Bool.{and_parts, eqb-true}
use Rattle.std.specs.Bool.{Decides}
use Rattle.std.specs.Option.{option_eq}
use Rattle.std.specs.Cmp.Lexicographic.{bytes_decides, pointwise, slice_cmp}
use Rattle.std.proofs.lemmas.Slice.Eq.{bytes_eq-Decides}
use Rattle.std.proofs.lemmas.Map.Text.{is_eq-slice_cmp}
use Rattle.pc_base.specs.declared.span.Span.{Span}
use Rattle.pc_base.specs.declared.span.Span.TheVariants as spans
use Rattle.pc_base.specs.declared.transaction.Priority.{Priority}
use Rattle.pc_base.specs.declared.transaction.TxnId.{TxnId}
use Rattle.pc_base.specs.declared.transaction.Who.{Who}
use Rattle.pc_base.specs.contracts.span.SpanPartialEq.TheImpl.{ghosts as span_test}
use Rattle.pc_base.specs.contracts.transaction.PriorityPartialEq.TheImpl.{ghosts as priority_test}
use Rattle.pc_base.specs.contracts.transaction.TxnIdPartialEq.TheImpl.{ghosts as id_test}
use Rattle.pc_base.specs.contracts.transaction.WhoPartialEq.TheImpl.{ghosts as who_test}
use Rattle.pc_proto.specs.declared.fate.Fate.{Fate}
use Rattle.pc_proto.specs.declared.fate.Finding.{Finding}
use Rattle.pc_proto.specs.declared.fate.Finding.TheVariants as findings
use Rattle.pc_proto.specs.declared.fate.Goal.{Goal}
use Rattle.pc_proto.specs.declared.meta.TxnMeta.{TxnMeta}
use Rattle.pc_proto.specs.declared.request.Request.{Request}
use Rattle.pc_proto.specs.declared.request.Request.TheVariants as requests
use Rattle.pc_proto.specs.declared.why.Why.{Why}
use Rattle.pc_proto.specs.declared.why.Why.TheVariants as whys
use Rattle.pc_proto.specs.contracts.fate.FatePartialEq.TheImpl.{ghosts as fate_test}
use Rattle.pc_proto.specs.contracts.fate.FindingPartialEq.TheImpl.{ghosts as finding_test}
use Rattle.pc_proto.specs.contracts.fate.GoalPartialEq.TheImpl.{ghosts as goal_test}
use Rattle.pc_proto.specs.contracts.meta.TxnMetaPartialEq.TheImpl.{ghosts as meta_test}
use Rattle.pc_proto.specs.contracts.request.RequestPartialEq.TheImpl.{ghosts as request_test}
use Rattle.pc_proto.specs.contracts.request.RequestEq.TheImpl.Laws.{lawful as request_laws}
use Rattle.pc_known.proofs.Exact.{keys_decide, writes_decide}
use Rattle.pc_proto.specs.contracts.why.WhyPartialEq.TheImpl.{ghosts as why_test}

never : {P : Type 0} → false ≡ true → P
never h = absurd cc

-- two tests that both hold
joined : {P Q : Type 0} (one other : Bool) → (one ≡ true → P) → (other ≡ true → Q) → one && other ≡ true → P × Q
joined one other first second h = let parts = and_parts one other h in (first parts.0, second parts.1)

key_is : (one other : List ℕ) → is_eq (slice_cmp nat_cmp one other) ≡ true → one ≡ other
key_is one other h = (bytes_eq-Decides one other).0 (sym (is_eq-slice_cmp one other) ∙ h)

id_is : (one other : TxnId) → id_test.eq one other ≡ true → one ≡ other
id_is one other h = grind arith

who_is : (one other : Who) → who_test.eq one other ≡ true → one ≡ other
who_is one other h = grind arith

priority_is : (one other : Priority) → priority_test.eq one other ≡ true → one ≡ other
priority_is one other h = grind arith

fate_is : (one other : Fate) → fate_test.eq one other ≡ true → one ≡ other
fate_is one other h = grind arith

goal_is : (one other : Goal) → goal_test.eq one other ≡ true → one ≡ other
goal_is one other h = grind arith

why_is : (one other : Why) → why_test.eq one other ≡ true → one ≡ other
why_is (whys.Pushed by) (whys.Pushed asker) h = ap whys.Pushed (who_is by asker h)
why_is (whys.Missing key by) (whys.Missing place asker) h =
    let same = joined _ _ (key_is key place) (who_is by asker) h in λ i. whys.Missing (same.0 i) (same.1 i)
why_is (whys.Refresh key ts) (whys.Refresh place at) h =
    let same = joined _ _ (key_is key place) (eqb-true ts at) h in λ i. whys.Refresh (same.0 i) (same.1 i)
why_is whys.Client whys.Client h = refl
why_is _ _ h = never h

finding_is : (one other : Finding) → finding_test.eq one other ≡ true → one ≡ other
finding_is findings.All findings.All h = refl
finding_is (findings.Missing key by) (findings.Missing place asker) h =
    let same = joined _ _ (key_is key place) (who_is by asker) h in λ i. findings.Missing (same.0 i) (same.1 i)
finding_is _ _ h = never h

maybe_is : (one other : Option (List ℕ)) → option_eq (λ a b. is_eq (slice_cmp nat_cmp a b)) one other ≡ true → one ≡ other
maybe_is None None h = refl
maybe_is (Some key) (Some place) h = ap Some (key_is key place h)
maybe_is _ _ h = never h

span_is : (one other : Span) → span_test.eq one other ≡ true → one ≡ other
span_is (spans.One key) (spans.One place) h = ap spans.One (key_is key place h)
span_is (spans.Between from to) (spans.Between first end) h =
    let same = joined _ _ (maybe_is from first) (maybe_is to end) h in λ i. spans.Between (same.0 i) (same.1 i)
span_is _ _ h = never h

meta_is : (one other : TxnMeta) → meta_test.eq one other ≡ true → one ≡ other
meta_is one other h =
    let same =
    joined _ _ (id_is one.id other.id)
    (joined _ _ (eqb-true one.epoch other.epoch)
    (joined _ _ (priority_is one.priority other.priority)
    (joined _ _ (eqb-true one.born other.born) (key_is one.anchor other.anchor)))) h in
    λ i. record { id = same.0 i; epoch = same.1.0 i; priority = same.1.1.0 i; born = same.1.1.1.0 i; anchor = same.1.1.1.1 i }

value_is : (one other : Option (List ℕ)) → option_eq (pointwise ◌==◌) one other ≡ true → one ≡ other
value_is None None h = refl
value_is (Some value) (Some laid) h = ap Some ((bytes_decides value laid).0 h)
value_is _ _ h = never h

request_is : (one other : Request) → request_test.eq one other ≡ true → one ≡ other
request_is (requests.Get id epoch seq ts key) (requests.Get other era next at place) h =
    let same = joined _ _ (id_is id other) (joined _ _ (eqb-true epoch era) (joined _ _ (eqb-true seq next) (joined _ _ (eqb-true ts at) (key_is key place)))) h in
    λ i. requests.Get (same.0 i) (same.1.0 i) (same.1.1.0 i) (same.1.1.1.0 i) (same.1.1.1.1 i)
request_is (requests.Scan id epoch seq ts span) (requests.Scan other era next at part) h =
    let same = joined _ _ (id_is id other) (joined _ _ (eqb-true epoch era) (joined _ _ (eqb-true seq next) (joined _ _ (eqb-true ts at) (span_is span part)))) h in
    λ i. requests.Scan (same.0 i) (same.1.0 i) (same.1.1.0 i) (same.1.1.1.0 i) (same.1.1.1.1 i)
request_is (requests.Put meta seq ts key value) (requests.Put other next at place laid) h =
    let same = joined _ _ (meta_is meta other) (joined _ _ (eqb-true seq next) (joined _ _ (eqb-true ts at) (joined _ _ (key_is key place) (value_is value laid)))) h in
    λ i. requests.Put (same.0 i) (same.1.0 i) (same.1.1.0 i) (same.1.1.1.0 i) (same.1.1.1.1 i)
request_is (requests.Refresh id from to span) (requests.Refresh other first end part) h =
    let same = joined _ _ (id_is id other) (joined _ _ (eqb-true from first) (joined _ _ (eqb-true to end) (span_is span part))) h in
    λ i. requests.Refresh (same.0 i) (same.1.0 i) (same.1.1.0 i) (same.1.1.1 i)
request_is (requests.Beat meta ts now) (requests.Beat other at read) h =
    let same = joined _ _ (meta_is meta other) (joined _ _ (eqb-true ts at) (eqb-true now read)) h in
    λ i. requests.Beat (same.0 i) (same.1.0 i) (same.1.1 i)
request_is (requests.Stage meta ts now writes locks) (requests.Stage other at read listed keys) h =
    let same = joined _ _ (meta_is meta other) (joined _ _ (eqb-true ts at) (joined _ _ (eqb-true now read) (joined _ _ (writes_decide writes listed).0 (keys_decide locks keys).0))) h in
    λ i. requests.Stage (same.0 i) (same.1.0 i) (same.1.1.0 i) (same.1.1.1.0 i) (same.1.1.1.1 i)
request_is (requests.Commit meta ts locks) (requests.Commit other at keys) h =
    let same = joined _ _ (meta_is meta other) (joined _ _ (eqb-true ts at) (keys_decide locks keys).0) h in
    λ i. requests.Commit (same.0 i) (same.1.0 i) (same.1.1 i)
request_is (requests.Abort meta why locks) (requests.Abort other cause keys) h =
    let same = joined _ _ (meta_is meta other) (joined _ _ (why_is why cause) (keys_decide locks keys).0) h in
    λ i. requests.Abort (same.0 i) (same.1.0 i) (same.1.1 i)
request_is (requests.Push holder by level now goal) (requests.Push other asker rank read aim) h =
    let same = joined _ _ (meta_is holder other) (joined _ _ (who_is by asker) (joined _ _ (priority_is level rank) (joined _ _ (eqb-true now read) (goal_is goal aim)))) h in
    λ i. requests.Push (same.0 i) (same.1.0 i) (same.1.1.0 i) (same.1.1.1.0 i) (same.1.1.1.1 i)
request_is (requests.Query id epoch seq ts key by) (requests.Query other era next at place asker) h =
    let same = joined _ _ (id_is id other) (joined _ _ (eqb-true epoch era) (joined _ _ (eqb-true seq next) (joined _ _ (eqb-true ts at) (joined _ _ (key_is key place) (who_is by asker))))) h in
    λ i. requests.Query (same.0 i) (same.1.0 i) (same.1.1.0 i) (same.1.1.1.0 i) (same.1.1.1.1.0 i) (same.1.1.1.1.1 i)
request_is (requests.Recover id epoch ts anchor finding) (requests.Recover other era at place found) h =
    let same = joined _ _ (id_is id other) (joined _ _ (eqb-true epoch era) (joined _ _ (eqb-true ts at) (joined _ _ (key_is anchor place) (finding_is finding found)))) h in
    λ i. requests.Recover (same.0 i) (same.1.0 i) (same.1.1.0 i) (same.1.1.1.0 i) (same.1.1.1.1 i)
request_is (requests.Resolve id key fate) (requests.Resolve other place end) h =
    let same = joined _ _ (id_is id other) (joined _ _ (key_is key place) (fate_is fate end)) h in
    λ i. requests.Resolve (same.0 i) (same.1.0 i) (same.1.1 i)
request_is (requests.Remove id anchor) (requests.Remove other place) h =
    let same = joined _ _ (id_is id other) (key_is anchor place) h in λ i. requests.Remove (same.0 i) (same.1 i)
request_is requests.Records requests.Records h = refl
request_is _ _ h = never h

itself : (one : Request) → request_test.eq one one ≡ true
itself one = let d = request_laws in d.laws.refl one

-- the derived test of two requests
pub requests_decide : (one other : Request) → Decides (request_test.eq one other) (one ≡ other)
requests_decide one other = (request_is one other, λ h. subst (λ r. request_test.eq one r ≡ true) h (itself one))
