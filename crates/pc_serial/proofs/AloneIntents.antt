-- A range whose intents are all of one transaction: what becomes of them over a request, and that no request of this transaction meets one.
use Rattle.std.proofs.Common.{◌≡◌, ◌≢◌, ℕ, max, Bool, true, false, ◌==◌, cond, if◌then◌else◌, List, [], ◌∷◌, find, Option, None, Some, IfSome, refl, sym, ap, subst, ◌∙◌}
use Rattle.std.specs.List.{AllByRecursion as Each}
use Rattle.std.specs.Option.{option_map, option_map_or}
use Rattle.std.specs.Prelude.{⊤}
use Rattle.pc_base.specs.declared.transaction.TxnId.{TxnId}
use Rattle.pc_base.specs.Keyed.{at}
use Rattle.pc_base.specs.Span.{same_key}
use Rattle.pc_base.specs.Transaction.{same_txn}
use Rattle.pc_implicit.proofs.IntentKeys.{each-found, each-laid, each-left}
use Rattle.pc_implicit.proofs.MetaRows.{ReplyHas, StateHas, reply_has}
use Rattle.pc_implicit.proofs.OwnKeys.{Ends}
use Rattle.pc_lists.proofs.Each.{each-at, each-weaker}
use Rattle.pc_lists.proofs.Same.{same_key-differs, same_txn-is, same_txn-self}
use Rattle.pc_proto.specs.declared.fate.Fate.{Fate}
use Rattle.pc_proto.specs.declared.fate.Fate.TheVariants as fates
use Rattle.pc_proto.specs.declared.meta.TxnMeta.{TxnMeta}
use Rattle.pc_proto.specs.declared.record.Intent.{Intent}
use Rattle.pc_proto.specs.declared.reply.Reply.{Reply}
use Rattle.pc_proto.specs.declared.reply.Reply.TheVariants as replies
use Rattle.pc_proto.specs.declared.request.Request.{Request}
use Rattle.pc_proto.specs.declared.request.Request.TheVariants as requests
use Rattle.pc_proto.specs.Intents.{fresh, grown, kept_if, other_at, own_at}
use Rattle.pc_proto.specs.Replies.{is_conflict}
use Rattle.pc_proto.specs.Table.{empty_table}
use Rattle.pc_world.specs.Answering.{MayAnswer}
use Rattle.pc_world.specs.Evaluation.{intents_after, reply}
use Rattle.pc_world.specs.Evaluation.IntentChange.{IntentChange, Leave, Lay, Drop, intents_with}
use Rattle.pc_world.specs.Evaluation.Put.{PutOutcome, Stands, Lands, first_outcome, laid, outcome_of_put, overtaken, own_outcome, put_change, write_ts}
use Rattle.pc_world.specs.Evaluation.Resolve.{change_for}
use Rattle.pc_world.specs.RangeState.{RangeState}

module _ (one : TxnId) where
  -- The intent is of the transaction, and its key is so.
  abbrev pub IsOne : (List ℕ → Type 0) → List ℕ × Intent → Type 0
  IsOne R e = (e.1.meta.id ≡ one) × R e.0

  -- If the request reads or writes, it does so for the transaction.
  abbrev pub IsForIt : Request → Type 0
  IsForIt (requests.Get id epoch seq ts key) = id ≡ one
  IsForIt (requests.Scan id epoch seq ts span) = id ≡ one
  IsForIt (requests.Put meta seq ts key value) = meta.id ≡ one
  IsForIt _ = ⊤

  -- ---- no request of it meets an intent

  abbrev Has : TxnId → List ℕ → Type 0
  Has id anchor = id ≡ one

  bare : (s : RangeState) → Each (λ e. e.1.meta.id ≡ one) s.intents → StateHas Has (record s { table = empty_table })
  bare s a = record { intents = a; records = tt }

  excluded : (request : Request) (s : RangeState) → Each (λ e. e.1.meta.id ≡ one) s.intents → IsForIt request → (holder : TxnMeta) (ts : ℕ) (key : List ℕ)
      → MayAnswer request (replies.Conflict holder ts key) → reply request s ≡ replies.Conflict holder ts key → ⊥
  excluded (requests.Get id epoch seq at_ts k) s a of holder ts key kind e =
      kind (subst (ReplyHas Has) e (reply_has Has (requests.Get id epoch seq at_ts k) (record s { table = empty_table }) (bare s a)) ∙ sym of)
  excluded (requests.Scan id epoch seq at_ts span) s a of holder ts key kind e =
      kind (subst (ReplyHas Has) e (reply_has Has (requests.Scan id epoch seq at_ts span) (record s { table = empty_table }) (bare s a)) ∙ sym of)
  excluded (requests.Put meta seq at_ts k value) s a of holder ts key kind e =
      kind (subst (ReplyHas Has) e (reply_has Has (requests.Put meta seq at_ts k value) (record s { table = empty_table }) (bare s a)) ∙ sym of)
  excluded request s a of holder ts key kind e = kind

  pub meets_none : (request : Request) (s : RangeState) → Each (λ e. e.1.meta.id ≡ one) s.intents → IsForIt request → MayAnswer request (reply request s) → is_conflict (reply request s) ≡ false
  meets_none request s a of kind = by (reply request s) refl kind
    where
      by : (told : Reply) → reply request s ≡ told → MayAnswer request told → is_conflict told ≡ false
      by (replies.Conflict holder ts key) e is = absurd (excluded request s a of holder ts key is e)
      by told e is = refl

  -- ---- what becomes of them

  -- What a change lays is of the transaction.
  abbrev LaysIt : IntentChange → Type 0
  LaysIt (Lay i) = i.meta.id ≡ one
  LaysIt Leave = ⊤
  LaysIt Drop = ⊤

  laid-it : (meta : TxnMeta) (seq ts : ℕ) (value : Option (List ℕ)) (own : Option Intent) → meta.id ≡ one → IfSome own (λ i. i.meta.id ≡ one) → (laid meta seq ts value own).meta.id ≡ one
  laid-it meta seq ts value None h a = h
  laid-it meta seq ts value (Some i) h a = by (i.meta.epoch == meta.epoch)
    where
      by : (b : Bool) → (if b then grown seq ts value i else fresh meta seq ts value).meta.id ≡ one
      by true = a
      by false = h

  own-lays : (meta : TxnMeta) (seq ts : ℕ) (key : List ℕ) (value : Option (List ℕ)) (own : Option Intent) (s : RangeState) → meta.id ≡ one → IfSome own (λ i. i.meta.id ≡ one) → LaysIt (put_change (own_outcome meta seq ts key value own s))
  own-lays meta seq ts key value own s h a = by (overtaken meta seq own) (laid meta seq (write_ts meta ts key own s) value own) (laid-it meta seq (write_ts meta ts key own s) value own h a)
    where
      by : (b : Bool) (i : Intent) → i.meta.id ≡ one → LaysIt (put_change (if b then Stands (option_map_or (λ j. j.ts) own 0) else Lands i))
      by true i is = tt
      by false i is = is

  put-lays : (other : Option Intent) (outcome : PutOutcome) → LaysIt (put_change outcome) → LaysIt (put_change (first_outcome other outcome))
  put-lays None outcome h = h
  put-lays (Some i) outcome h = tt

  kept-own : (id : TxnId) (o : Option Intent) → IfSome o (λ i. i.meta.id ≡ one) → IfSome (kept_if (λ i. same_txn i.meta.id id) o) (λ i. i.meta.id ≡ one)
  kept-own id None a = tt
  kept-own id (Some i) a = by (same_txn i.meta.id id)
    where
      by : (b : Bool) → IfSome (if b then Some i else None) (λ i. i.meta.id ≡ one)
      by true = a
      by false = tt

  -- of another transaction none is found
  none-of : (id : TxnId) (o : Option Intent) → (id ≡ one → ⊥) → IfSome o (λ i. i.meta.id ≡ one) → kept_if (λ i. same_txn i.meta.id id) o ≡ None
  none-of id None other a = refl
  none-of id (Some i) other a = by (same_txn i.meta.id id) refl
    where
      by : (b : Bool) → same_txn i.meta.id id ≡ b → (if b then Some i else None) ≡ None
      by true same = absurd (other (sym (same_txn-is i.meta.id id same) ∙ a))
      by false differ = refl

  -- what is found is under the key
  found-there : (o : Option Intent) (i : Intent) → kept_if (λ i. same_txn i.meta.id one) o ≡ Some i → o ≡ Some i
  found-there None i is = absurd cc
  found-there (Some j) i is = by (same_txn j.meta.id one) is
    where
      by : (b : Bool) → (if b then Some j else None) ≡ Some i → Some j ≡ Some i
      by true is = is
      by false is = absurd cc

  module _ (R S : List ℕ → Type 0) (key : List ℕ) where
    -- where none of it is found under the key, none is there
    none-there : (es : List (List ℕ × Intent)) → own_at one key es ≡ None → Each (IsOne R) es → ((k : List ℕ) → k ≢ key → R k → S k) → Each (IsOne S) es
    none-there [] none a on = tt
    none-there (e ∷ es) none a on = by (same_key e.0 key) refl none (λ rest. none-there es rest a.1 on)
      where
        by : (b : Bool) → same_key e.0 key ≡ b → kept_if (λ i. same_txn i.meta.id one) (option_map (λ (x : List ℕ × Intent). x.1) (cond b (Some e) (find (λ x. same_key x.0 key) es))) ≡ None
            → (own_at one key es ≡ None → Each (IsOne S) es) → Each (IsOne S) (e ∷ es)
        by true is none rest = absurd (let some : kept_if (λ i. same_txn i.meta.id one) (Some e.1) ≡ Some e.1 = ap (λ b. if b then Some e.1 else None) (ap (λ i. same_txn i one) a.0.0 ∙ same_txn-self one) in let both = sym none ∙ some in cc both)
        by false is none rest = ((a.0.0, on e.0 (same_key-differs e.0 key is) a.0.1), rest none)

  module _ (R S : List ℕ → Type 0) (request : Request) (s : RangeState) (a : Each (IsOne R) s.intents)
      (stay : (key : List ℕ) → R key → ((fate : Fate) → Ends fate → request ≡ requests.Resolve one key fate → ⊥) → S key)
      (lay : (meta : TxnMeta) (seq ts : ℕ) (key : List ℕ) (value : Option (List ℕ)) → request ≡ requests.Put meta seq ts key value → (meta.id ≡ one) × S key) where
    all-stay : ((key : List ℕ) (fate : Fate) → Ends fate → request ≡ requests.Resolve one key fate → ⊥) → Each (IsOne S) s.intents
    all-stay other = each-weaker (IsOne R) (IsOne S) (λ e is. (is.0, stay e.0 is.1 (other e.0))) s.intents a

    after-put : (meta : TxnMeta) (seq ts : ℕ) (key : List ℕ) (value : Option (List ℕ)) → request ≡ requests.Put meta seq ts key value → Each (IsOne S) (intents_with key (put_change (outcome_of_put meta seq ts key value s)) s.intents)
    after-put meta seq ts key value asks =
        let is = lay meta seq ts key value asks in
        let found = each-at (λ (i : Intent). i.meta.id ≡ one) same_key key s.intents (each-weaker (IsOne R) (λ e. e.1.meta.id ≡ one) (λ e h. h.0) s.intents a) in
        by (put_change (outcome_of_put meta seq ts key value s))
        (put-lays (other_at meta.id key s.intents) (own_outcome meta seq ts key value (own_at meta.id key s.intents) s)
        (own-lays meta seq ts key value (own_at meta.id key s.intents) s is.0 (kept-own meta.id (at same_key key s.intents) found)))
        (all-stay (λ k fate ends resolves. let both = sym asks ∙ resolves in cc both)) is.1
      where
        by : (c : IntentChange) → LaysIt c → Each (IsOne S) s.intents → S key → Each (IsOne S) (intents_with key c s.intents)
        by Leave h each so = each
        by (Lay i) h each so = each-laid (IsOne S) key i s.intents (λ k same. (h, subst S (sym same) so)) each
        by Drop h each so = each-left (IsOne S) key (IsOne S) (λ e apart is. is) s.intents each

    after-own : (key : List ℕ) (fate : Fate) → request ≡ requests.Resolve one key fate → (own : Option Intent) → own_at one key s.intents ≡ own → Each (IsOne S) (intents_with key (change_for fate own) s.intents)
    after-own key fate asks None none =
        none-there R S key s.intents none a
        (λ k apart is. stay k is (λ other ends resolves. let both = sym asks ∙ resolves in let same : key ≡ k = cc both in apart (sym same)))
    after-own key (fates.Committed epoch ts) asks (Some i) some =
        each-left (IsOne R) key (IsOne S) (λ e apart is. (is.0, stay e.0 is.1 (λ other ends resolves. let both = sym asks ∙ resolves in let same : key ≡ e.0 = cc both in apart (sym same)))) s.intents a
    after-own key fates.Aborted asks (Some i) some =
        each-left (IsOne R) key (IsOne S) (λ e apart is. (is.0, stay e.0 is.1 (λ other ends resolves. let both = sym asks ∙ resolves in let same : key ≡ e.0 = cc both in apart (sym same)))) s.intents a
    after-own key (fates.Pending ts) asks (Some i) some =
        let there : at same_key key s.intents ≡ Some i = found-there (at same_key key s.intents) i some in
        let old : IsOne R (key, i) = each-found (IsOne R) key i s.intents there a in
        let quiet : (k : List ℕ) (fate : Fate) → Ends fate → request ≡ requests.Resolve one k fate → ⊥ =
        λ k other ends resolves. let both = sym asks ∙ resolves in let same : fates.Pending ts ≡ other = cc both in subst Ends (sym same) ends in
        each-laid (IsOne S) key (record i { ts = max i.ts ts }) s.intents (λ k same. (old.0, subst S (sym same) (stay key old.1 (quiet key)))) (all-stay quiet)

    after-resolve : (id : TxnId) (key : List ℕ) (fate : Fate) → request ≡ requests.Resolve id key fate → Each (IsOne S) (intents_with key (change_for fate (own_at id key s.intents)) s.intents)
    after-resolve id key fate asks = by (same_txn id one) refl
      where
        by : (b : Bool) → same_txn id one ≡ b → Each (IsOne S) (intents_with key (change_for fate (own_at id key s.intents)) s.intents)
        by true same =
            let is : id ≡ one = same_txn-is id one same in
            subst (λ i. Each (IsOne S) (intents_with key (change_for fate (own_at i key s.intents)) s.intents)) (sym is)
            (after-own key fate (asks ∙ ap (λ i. requests.Resolve i key fate) is) (own_at one key s.intents) refl)
        by false differ =
            let apart : id ≡ one → ⊥ = λ is. let t : same_txn id one ≡ true = ap (λ i. same_txn i one) is ∙ same_txn-self one in let both = sym t ∙ differ in cc both in
            let none : own_at id key s.intents ≡ None =
            none-of id (at same_key key s.intents) apart (each-at (λ (i : Intent). i.meta.id ≡ one) same_key key s.intents (each-weaker (IsOne R) (λ e. e.1.meta.id ≡ one) (λ e h. h.0) s.intents a)) in
            subst (λ o. Each (IsOne S) (intents_with key (change_for fate o) s.intents)) (sym none)
            (all-stay (λ k other ends resolves. let both = sym asks ∙ resolves in let same : id ≡ one = cc both in apart same))

  -- the intents after a request are of the transaction, and their keys are so
  pub intents_step : (R S : List ℕ → Type 0) (request : Request) (s : RangeState) → Each (IsOne R) s.intents
      → ((key : List ℕ) → R key → ((fate : Fate) → Ends fate → request ≡ requests.Resolve one key fate → ⊥) → S key)
      → ((meta : TxnMeta) (seq ts : ℕ) (key : List ℕ) (value : Option (List ℕ)) → request ≡ requests.Put meta seq ts key value → (meta.id ≡ one) × S key)
      → Each (IsOne S) (intents_after request s)
  intents_step R S (requests.Put meta seq ts key value) s a stay lay = after-put R S (requests.Put meta seq ts key value) s a stay lay meta seq ts key value refl
  intents_step R S (requests.Resolve id key fate) s a stay lay = after-resolve R S (requests.Resolve id key fate) s a stay lay id key fate refl
  intents_step R S request s a stay lay = all-stay R S request s a stay lay (λ key fate ends resolves. cc resolves)

-- an intent that is found is of the transaction
pub own_of_one : (one id : TxnId) (key : List ℕ) (i : Intent) (es : List (List ℕ × Intent)) → Each (λ e. e.1.meta.id ≡ one) es → own_at id key es ≡ Some i → i.meta.id ≡ one
own_of_one one id key i es a is = by (own_at id key es) (kept-own one id (at same_key key es) (each-at (λ (i : Intent). i.meta.id ≡ one) same_key key es a)) is
  where
    by : (o : Option Intent) → IfSome o (λ i. i.meta.id ≡ one) → o ≡ Some i → i.meta.id ≡ one
    by None h is = absurd cc
    by (Some j) h is = let same : j ≡ i = cc in subst (λ (x : Intent). x.meta.id ≡ one) same h
