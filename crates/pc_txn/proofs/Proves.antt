-- What a reply proves of a write depends on its key and sequence alone.
use Rattle.std.proofs.Common.{◌≡◌, ℕ, Bool, true, false, cond, ◌&&◌, ◌||◌, ◌==◌, List, [], ◌∷◌, ◌++◌, Option, map, refl, sym, ap, ◌∙◌}
use Rattle.std.specs.List.{list_any}
use Rattle.std.proofs.lemmas.Bool.{and_from, eq-eqb}
use Rattle.pc_base.specs.declared.transaction.TxnId.{TxnId}
use Rattle.pc_base.specs.declared.transaction.Who.{Who}
use Rattle.pc_base.specs.Span.{same_key}
use Rattle.pc_base.specs.Transaction.{same_txn}
use Rattle.pc_follows.specs.PipelinedPuts.{proves}
use Rattle.pc_lists.proofs.Same.{same_key-equal}
use Rattle.pc_proto.specs.declared.meta.TxnMeta.{TxnMeta}
use Rattle.pc_proto.specs.declared.reply.Reply.{Reply}
use Rattle.pc_proto.specs.declared.reply.Reply.TheVariants as replies
use Rattle.pc_proto.specs.declared.request.Request.{Request}
use Rattle.pc_proto.specs.declared.request.Request.TheVariants as requests
use Rattle.pc_txn.proofs.Same.{same_epoch-self}
use Rattle.pc_world.specs.Known.Traffic.{Heard}
use Rattle.pc_world.specs.Known.Transactions.{Txn}
use Rattle.pc_world.specs.Known.Writes.{Write, is_proved, proved_at, with_put_reply, with_query_reply, writes_replied}

-- what passes one test passes the other
pub any_same : {X : Type 0} (f g : X → Bool) → ((x : X) → f x ≡ g x) → (xs : List X) → list_any f xs ≡ list_any g xs
any_same f g same [] = refl
any_same f g same (x ∷ xs) = ap (λ b. b || list_any f xs) (same x) ∙ ap (λ b. g x || b) (any_same f g same xs)

-- The two writes are of one key and sequence, and neither is proved.
pub record AreAlike (a b : Write) : Type 0 where
  pub key : a.key ≡ b.key
  pub seq : a.seq ≡ b.seq
  pub fresh : a.proofs ≡ []
  pub other : b.proofs ≡ []

proved_is : (key : List ℕ) (seq ts : ℕ) (w : Write) → is_proved (proved_at key seq ts w) ≡ cond (w.seq == seq && same_key w.key key) (list_any (λ p. true) (w.proofs ++ ts ∷ [])) (list_any (λ p. true) w.proofs)
proved_is key seq ts w =
    elim (w.seq == seq && same_key w.key key) as (λ b. is_proved (cond b (record w { proofs = w.proofs ++ ts ∷ [] }) w) ≡ cond b (list_any (λ p. true) (w.proofs ++ ts ∷ [])) (list_any (λ p. true) w.proofs))
    [ true ↦ refl | false ↦ refl ]

proved_alike : (key : List ℕ) (seq ts : ℕ) (a b : Write) → AreAlike a b → is_proved (proved_at key seq ts a) ≡ is_proved (proved_at key seq ts b)
proved_alike key seq ts a b l =
    let F : ℕ → List ℕ → List ℕ → Bool = λ n place ps. cond (n == seq && same_key place key) (list_any (λ p. true) (ps ++ ts ∷ [])) (list_any (λ p. true) ps) in
    proved_is key seq ts a ∙ ap (λ n. F n a.key a.proofs) l.seq ∙ ap (λ place. F b.seq place a.proofs) l.key ∙ ap (F b.seq b.key) (l.fresh ∙ sym l.other) ∙ sym (proved_is key seq ts b)

-- One of these is proved.
abbrev some_proved : List Write → Bool
some_proved ws = list_any is_proved ws

none_proved : (a b : Write) → AreAlike a b → some_proved (a ∷ []) ≡ some_proved (b ∷ [])
none_proved a b l = ap (λ ps. list_any (λ p. true) ps || false) (l.fresh ∙ sym l.other)

put_alike : (key : List ℕ) (seq : ℕ) (reply : Reply) (a b : Write) → AreAlike a b → some_proved (with_put_reply key seq reply (a ∷ [])) ≡ some_proved (with_put_reply key seq reply (b ∷ []))
put_alike key seq (replies.Written ts) a b l = ap (λ p. p || false) (proved_alike key seq ts a b l)
put_alike key seq reply a b l = none_proved a b l

query_alike : (key : List ℕ) (seq ts : ℕ) (reply : Reply) (a b : Write) → AreAlike a b → some_proved (with_query_reply key seq ts reply (a ∷ [])) ≡ some_proved (with_query_reply key seq ts reply (b ∷ []))
query_alike key seq ts replies.Found a b l = ap (λ p. p || false) (proved_alike key seq ts a b l)
query_alike key seq ts reply a b l = none_proved a b l

-- a choice of writes
chosen : (c : Bool) (xs ys us vs : List Write) → some_proved xs ≡ some_proved us → some_proved ys ≡ some_proved vs → some_proved (cond c xs ys) ≡ some_proved (cond c us vs)
chosen true xs ys us vs e f = e
chosen false xs ys us vs e f = f

replied_alike : (id : TxnId) (epoch : ℕ) (r : Request) (reply : Reply) (a b : Write) → AreAlike a b → some_proved (writes_replied id epoch r reply (a ∷ [])) ≡ some_proved (writes_replied id epoch r reply (b ∷ []))
replied_alike id epoch (requests.Put meta seq ts key value) reply a b l = chosen (same_txn meta.id id && meta.epoch == epoch) (with_put_reply key seq reply (a ∷ [])) (a ∷ []) (with_put_reply key seq reply (b ∷ [])) (b ∷ []) (put_alike key seq reply a b l) (none_proved a b l)
replied_alike id epoch (requests.Query other at seq ts key by) reply a b l = chosen (same_txn other id && at == epoch) (with_query_reply key seq ts reply (a ∷ [])) (a ∷ []) (with_query_reply key seq ts reply (b ∷ [])) (b ∷ []) (query_alike key seq ts reply a b l) (none_proved a b l)
replied_alike id epoch r reply a b l = none_proved a b l

-- The write, none of whose proofs was heard yet.
abbrev bare : Write → Write
bare w = record w { proofs = [] }

-- so it does of a write that has the same place, in the same epoch of the same transaction
pub proves_as : (t later : Txn) (a b : Write) → later.id ≡ t.id → later.epoch ≡ t.epoch → a.key ≡ b.key → a.seq ≡ b.seq → (h : Heard) → proves later a h ≡ proves t b h
proves_as t later a b id epoch key seq h =
    replied_alike later.id later.epoch h.request h.reply (bare a) (bare b) (record { key = key; seq = seq; fresh = refl; other = refl })
    ∙ ap (λ i. some_proved (writes_replied i later.epoch h.request h.reply (bare b ∷ []))) id
    ∙ ap (λ e. some_proved (writes_replied t.id e h.request h.reply (bare b ∷ []))) epoch

-- and all that was heard
pub all_proves_as : (t later : Txn) (a b : Write) → later.id ≡ t.id → later.epoch ≡ t.epoch → a.key ≡ b.key → a.seq ≡ b.seq → (hs : List Heard) → list_any (proves later a) hs ≡ list_any (proves t b) hs
all_proves_as t later a b id epoch key seq hs = any_same (proves later a) (proves t b) (proves_as t later a b id epoch key seq) hs

hit_is : (key : List ℕ) (seq at : ℕ) (w : Write) → w.key ≡ key → w.seq ≡ seq → some_proved (map (proved_at key seq at) (bare w ∷ [])) ≡ true
hit_is key seq at w place number =
    let hit : (w.seq == seq && same_key w.key key) ≡ true = and_from (w.seq == seq) (same_key w.key key) (eq-eqb w.seq seq number) (same_key-equal w.key key place) in
    ap (λ b. some_proved (cond b (record (bare w) { proofs = [] ++ at ∷ [] }) (bare w) ∷ [])) hit

-- the reply that its put was written proves it
pub written_proves : (t : Txn) (w : Write) (h : Heard) (meta : TxnMeta) (sent_at at seq : ℕ) (key : List ℕ) (value : Option (List ℕ)) → h.request ≡ requests.Put meta seq sent_at key value → h.reply ≡ replies.Written at → meta.id ≡ t.id → meta.epoch ≡ t.epoch → w.key ≡ key → w.seq ≡ seq
    → proves t w h ≡ true
written_proves t w h meta sent_at at seq key value asked told whose epoch place number =
    let own : (same_txn meta.id t.id && (meta.epoch == t.epoch)) ≡ true = ap (λ id. same_txn id t.id && (meta.epoch == t.epoch)) whose ∙ ap (λ n. same_txn t.id t.id && (n == t.epoch)) epoch ∙ same_epoch-self t.id t.epoch in
    ap (λ r. some_proved (writes_replied t.id t.epoch r h.reply (bare w ∷ []))) asked
    ∙ ap (λ reply. some_proved (writes_replied t.id t.epoch (requests.Put meta seq sent_at key value) reply (bare w ∷ []))) told
    ∙ ap (λ b. some_proved (cond b (map (proved_at key seq at) (bare w ∷ [])) (bare w ∷ []))) own
    ∙ hit_is key seq at w place number

-- so does the reply that a query found it
pub found_proves : (t : Txn) (w : Write) (h : Heard) (seq ts : ℕ) (key : List ℕ) (by : Who) → h.request ≡ requests.Query t.id t.epoch seq ts key by → h.reply ≡ replies.Found → w.key ≡ key → w.seq ≡ seq → proves t w h ≡ true
found_proves t w h seq ts key by asked told place number =
    ap (λ r. some_proved (writes_replied t.id t.epoch r h.reply (bare w ∷ []))) asked
    ∙ ap (λ reply. some_proved (writes_replied t.id t.epoch (requests.Query t.id t.epoch seq ts key by) reply (bare w ∷ []))) told
    ∙ ap (λ b. some_proved (cond b (map (proved_at key seq ts) (bare w ∷ [])) (bare w ∷ []))) (same_epoch-self t.id t.epoch)
    ∙ hit_is key seq ts w place number
