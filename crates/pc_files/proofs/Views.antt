-- What is heard of a transaction by what is filed under it is what is heard of it at all.
use Rattle.std.proofs.Common.{◌≡◌, ◌↔◌, ◌&&◌, ◌||◌, ◌==◌, ℕ, Bool, true, false, cond, Any, IsTrue, List, [], ◌∷◌, None, Some, if◌then◌else◌, filter, find, is_some, refl, sym, ap, subst, ◌∙◌}
use Rattle.std.proofs.lemmas.Bool.{and_parts}
use Rattle.std.proofs.lemmas.List.Elements.{All-weaker}
use Rattle.std.specs.List.{list_any}
use Rattle.std.specs.Option.{option_and_then}
use Rattle.pc_base.specs.declared.span.Span.{Span}
use Rattle.pc_base.specs.declared.transaction.TxnId.{TxnId}
use Rattle.pc_base.specs.declared.transaction.Who.{Who}
use Rattle.pc_base.specs.Transaction.{same_txn}
use Rattle.pc_files.proofs.Narrow.{any_narrow, itself, record_named}
use Rattle.pc_files.specs.Filing.{decided_by, deciding_of, is_txn, replies_of, txn_named, txn_viewed, views_of}
use Rattle.pc_lists.proofs.Lists.{contains_filter, contains_in_filter}
use Rattle.pc_proto.specs.declared.fate.Fate.{Fate}
use Rattle.pc_proto.specs.declared.request.Request.{Request}
use Rattle.pc_proto.specs.declared.request.Request.TheVariants as requests
use Rattle.pc_proto.specs.declared.why.Why.{Why}
use Rattle.pc_proto.specs.Replies.{view_in}
use Rattle.pc_proto.specs.Requests.{is_about, is_push_of, subject_anchor}
use Rattle.pc_world.specs.Known.Reads.{IsGoodAt, IsGoodTo, WasRefreshed}
use Rattle.pc_world.specs.Known.Traffic.{Heard, Sent}
use Rattle.pc_world.specs.Known.Transactions.{IsGood, Txn, has_staged, is_stage_of}
use Rattle.pc_world.specs.Send.Recovery.{WasFound, WasMissed}
use Rattle.pc_world.specs.Send.Settling.{ShowsFate}
use Rattle.pc_world.specs.Tell.End.{shows_staging}
use Rattle.pc_world.specs.Views.{ShowsAborted, WasAborted, WasCommitted, anchor_heard, shows_committed, shows_view}

module _ {X : Type 0} (p q : X → Bool) (passes : (x : X) → q x ≡ true → p x ≡ true) where
  find-one : (b c : Bool) (x : X) (xs : List X) → p x ≡ b → q x ≡ c → find q (filter p xs) ≡ find q xs → find q (cond b (x ∷ filter p xs) (filter p xs)) ≡ find q (x ∷ xs)
  find-one true true x xs here is later = ap (λ b. cond b (Some x) (find q (filter p xs))) is ∙ sym (ap (λ b. cond b (Some x) (find q xs)) is)
  find-one true false x xs here is later = ap (λ b. cond b (Some x) (find q (filter p xs))) is ∙ later ∙ sym (ap (λ b. cond b (Some x) (find q xs)) is)
  find-one false true x xs here is later = let no : true ≡ false = sym (passes x is) ∙ here in absurd (cc no)
  find-one false false x xs here is later = later ∙ sym (ap (λ b. cond b (Some x) (find q xs)) is)

  -- the first that is found is among those that pass
  find_narrow : (xs : List X) → find q (filter p xs) ≡ find q xs
  find_narrow [] = refl
  find_narrow (x ∷ xs) = find-one (p x) (q x) x xs refl refl (find_narrow xs)

module _ {X : Type 0} (p q : X → Bool) (passes : (x : X) → q x ≡ true → p x ≡ true) where
  any-one : (b c : Bool) (x : X) (xs : List X) → p x ≡ b → q x ≡ c → list_any q (filter p xs) ≡ list_any q xs → list_any q (cond b (x ∷ filter p xs) (filter p xs)) ≡ list_any q (x ∷ xs)
  any-one true c x xs here is later = ap (λ b. q x || b) later
  any-one false true x xs here is later = let no : true ≡ false = sym (passes x is) ∙ here in absurd (cc no)
  any-one false false x xs here is later = later ∙ sym (ap (λ b. b || list_any q xs) is)

  -- one that is found is among those that pass
  pub list_any_narrow : (xs : List X) → list_any q (filter p xs) ≡ list_any q xs
  list_any_narrow [] = refl
  list_any_narrow (x ∷ xs) = any-one (p x) (q x) x xs refl refl (list_any_narrow xs)

stage-decides : (id : TxnId) (epoch ts : ℕ) (key : List ℕ) (seq : ℕ) (request : Request) → is_stage_of id epoch ts key seq request ≡ true → is_txn id (decided_by request) ≡ true
stage-decides id epoch ts key seq (requests.Stage meta at now writes locks) t = (and_parts (same_txn meta.id id) _ (and_parts (same_txn meta.id id && meta.epoch == epoch) _ t).0).0
stage-decides id epoch ts key seq _ t = let no : false ≡ true = t in absurd (cc no)

-- the transaction staged the write
pub has_staged_of : (id : TxnId) (sent : List Sent) (epoch ts : ℕ) (key : List ℕ) (seq : ℕ) → has_staged (deciding_of id sent) id epoch ts key seq ≡ has_staged sent id epoch ts key seq
has_staged_of id sent epoch ts key seq =
    list_any_narrow (λ m. is_txn id (decided_by m.request)) (λ m. is_stage_of id epoch ts key seq m.request) (λ m t. stage-decides id epoch ts key seq m.request t) sent

module _ (id : TxnId) where
  -- The reply is to a request that names the transaction.
  abbrev about : Heard → Bool
  about h = is_txn id (txn_named h.request)

  -- It is, and the reply has a view.
  abbrev viewed : Heard → Bool
  viewed h = is_txn id (txn_viewed h)

  has-view : (h : Heard) → about h ≡ true → is_some (view_in h.reply) ≡ true → viewed h ≡ true
  has-view h names has = ap (λ b. is_txn id (if b then txn_named h.request else None)) has ∙ names

  asked : (request : Request) (h : Heard) → txn_named request ≡ Some id → h.request ≡ request → about h ≡ true
  asked request h names is = subst (λ r. is_txn id (txn_named r) ≡ true) (sym is) (subst (λ o. is_txn id o ≡ true) (sym names) (itself id))

  module _ (heard : List Heard) where
    pub committed : (ts : ℕ) → WasCommitted (replies_of id heard) id ts ↔ WasCommitted heard id ts
    committed ts = any_narrow about (λ h. IsTrue (shows_committed id ts h)) (λ h t. record_named id h.request (and_parts (is_about id h.request) _ t).0) heard

    pub aborted : (why : Why) → WasAborted (replies_of id heard) id why ↔ WasAborted heard id why
    aborted why = any_narrow about (ShowsAborted id why) (λ h a. record_named id h.request a.about) heard

    pub anchored : anchor_heard id (views_of id heard) ≡ anchor_heard id heard
    anchored =
        ap (option_and_then (λ h. subject_anchor h.request))
        (find_narrow viewed (shows_view id) (λ h t. let parts = and_parts (is_about id h.request) _ t in has-view h (record_named id h.request parts.0) parts.1) heard)

    pub staged : (epoch ts : ℕ) → Any (λ h. IsTrue (shows_staging id epoch ts h)) (replies_of id heard) ↔ Any (λ h. IsTrue (shows_staging id epoch ts h)) heard
    staged epoch ts = any_narrow about (λ h. IsTrue (shows_staging id epoch ts h)) (λ h t. record_named id h.request (and_parts (is_about id h.request) _ t).0) heard

    pub has_fate : (fate : Fate) → Any (ShowsFate id fate) (views_of id heard) ↔ Any (ShowsFate id fate) heard
    has_fate fate = any_narrow viewed (ShowsFate id fate) (λ h f. has-view h (record_named id h.request f.about) (ap is_some f.told)) heard

    pub final : (P : Heard → Type 0) → ((h : Heard) → P h → (IsTrue (is_about id h.request)) × (is_some (view_in h.reply) ≡ true)) → Any P (views_of id heard) ↔ Any P heard
    final P shows = any_narrow viewed P (λ h f. let s = shows h f in has-view h (record_named id h.request s.0) s.1) heard

    push-named : (request : Request) → is_push_of id request ≡ true → is_txn id (txn_named request) ≡ true
    push-named (requests.Push holder by level now goal) t = t
    push-named _ t = let no : false ≡ true = t in absurd (cc no)

    pub pushed : (P : Heard → Type 0) → ((h : Heard) → P h → is_push_of id h.request ≡ true) → Any P (replies_of id heard) ↔ Any P heard
    pushed P is = any_narrow about P (λ h p. push-named h.request (is h p)) heard

    pub found : (epoch ts : ℕ) (w : List ℕ × ℕ) → Any (WasFound id epoch ts w) (replies_of id heard) ↔ Any (WasFound id epoch ts w) heard
    found epoch ts w = any_narrow about (WasFound id epoch ts w) (λ h f. asked (requests.Query id epoch w.1 ts w.0 f.by) h refl f.asked) heard

    pub missed : (epoch ts : ℕ) (writes : List (List ℕ × ℕ)) (key : List ℕ) (by : Who) → Any (WasMissed id epoch ts writes key by) (replies_of id heard) ↔ Any (WasMissed id epoch ts writes key by) heard
    missed epoch ts writes key by = any_narrow about (WasMissed id epoch ts writes key by) (λ h m. asked (requests.Query id epoch m.seq ts key by) h refl m.asked) heard

    refreshed-in : (span : Span) (from to : ℕ) → WasRefreshed id (replies_of id heard) span from to → WasRefreshed id heard span from to
    refreshed-in span from to r = record { reply = r.reply; listed = (contains_filter about heard r.reply r.listed).0; asked = r.asked; told = r.told }

    refreshed-of : (span : Span) (from to : ℕ) → WasRefreshed id heard span from to → WasRefreshed id (replies_of id heard) span from to
    refreshed-of span from to r =
        record { reply = r.reply; listed = contains_in_filter about heard r.reply r.listed (asked (requests.Refresh id from to span) r.reply refl r.asked); asked = r.asked; told = r.told }

    good-in : (span : Span) (ts good : ℕ) → IsGoodTo id (replies_of id heard) span ts good → IsGoodTo id heard span ts good
    good-in span ts good IsGoodTo.AtOnce = IsGoodTo.AtOnce
    good-in span ts good (IsGoodTo.Further before wider from to so_far way holds low) = IsGoodTo.Further before wider from to (good-in span ts before so_far) (refreshed-in wider from to way) holds low

    good-of : (span : Span) (ts good : ℕ) → IsGoodTo id heard span ts good → IsGoodTo id (replies_of id heard) span ts good
    good-of span ts good IsGoodTo.AtOnce = IsGoodTo.AtOnce
    good-of span ts good (IsGoodTo.Further before wider from to so_far way holds low) = IsGoodTo.Further before wider from to (good-of span ts before so_far) (refreshed-of wider from to way) holds low

    pub good_to : (span : Span) (ts good : ℕ) → IsGoodTo id (replies_of id heard) span ts good ↔ IsGoodTo id heard span ts good
    good_to span ts good = (good-in span ts good, good-of span ts good)

-- the reads of a transaction are good
pub reads_good : (heard : List Heard) (t : Txn) (ts : ℕ) → IsGood (replies_of t.id heard) t ts ↔ IsGood heard t ts
reads_good heard t ts = (
  λ g. record {
    begun = g.begun;
    reads = All-weaker (IsGoodAt t.id (replies_of t.id heard) ts) (IsGoodAt t.id heard ts)
        (λ r at. record { not_below = at.not_below; up_to = (at.up_to.0, (good_to t.id heard r.span r.ts at.up_to.0).0 at.up_to.1, at.up_to.2) }) t.reads g.reads;
  },
  λ g. record {
    begun = g.begun;
    reads = All-weaker (IsGoodAt t.id heard ts) (IsGoodAt t.id (replies_of t.id heard) ts)
        (λ r at. record { not_below = at.not_below; up_to = (at.up_to.0, (good_to t.id heard r.span r.ts at.up_to.0).1 at.up_to.1, at.up_to.2) }) t.reads g.reads;
  },
)
