-- One session alone: of a write that is not proved a put was not answered yet; and it is of the open transaction, or that put went out before the
-- open call.
use Rattle.std.proofs.Common.{◌≡◌, ℕ, Bool, true, false, ◌==◌, ◌&&◌, ◌||◌, if◌then◌else◌, List, [], ◌∷◌, ◌++◌, map, ◌⊎◌, inl, inr, Option, None, Some, IfSome, Contains, refl, sym, ap, subst, ◌∙◌, append-nil}
use Rattle.std.proofs.lemmas.Bool.{and_from, and_parts, eq-eqb, eqb-true}
use Rattle.std.proofs.lemmas.List.Elements.{Contains-append_left, Contains-push, Contains-push_cases}
use Rattle.std.proofs.lemmas.List.Folds.{list_any-append}
use Rattle.std.specs.List.{list_any}
use Rattle.std.specs.Option.{option_to_list}
use Rattle.pc_base.specs.declared.transaction.TxnId.{TxnId}
use Rattle.pc_base.specs.Span.{same_key}
use Rattle.pc_base.specs.Transaction.{same_txn}
use Rattle.pc_lists.proofs.Lists.{contains_in_map}
use Rattle.pc_lists.proofs.Same.{same_key-self, same_txn-is, same_txn-self}
use Rattle.pc_proto.specs.declared.reply.Reply.{Reply}
use Rattle.pc_proto.specs.declared.reply.Reply.TheVariants as replies
use Rattle.pc_proto.specs.declared.request.Request.{Request}
use Rattle.pc_proto.specs.declared.request.Request.TheVariants as requests
use Rattle.pc_proto.specs.Replies.{is_conflict}
use Rattle.pc_serial.proofs.AloneStanding.{last_of}
use Rattle.pc_world.specs.Answering.{MayAnswer}
use Rattle.pc_world.specs.Known.{Known}
use Rattle.pc_world.specs.Known.Statements.{Statement}
use Rattle.pc_world.specs.Known.Traffic.{Heard, Sent}
use Rattle.pc_world.specs.Known.Transactions.{Txn, txn_heard, txn_sent}
use Rattle.pc_world.specs.Known.Writes.{Write, asked_again, is_proved, proved_at, with_put, with_put_reply, with_query_reply, writes_heard, writes_replied, writes_sent}
use Rattle.pc_world.specs.Tell.Refusal.{is_heard}

-- The request is a put of this write of the transaction's epoch.
abbrev pub IsPutOfWrite : TxnId → ℕ → Write → Request → Type 0
IsPutOfWrite id epoch w (requests.Put meta seq ts key value) = (meta.id ≡ id) × (meta.epoch ≡ epoch) × (seq ≡ w.seq) × (key ≡ w.key)
IsPutOfWrite id epoch w request = ⊥

-- A put of the write was sent, and its reply was not heard yet.
pub record IsAwaited (sent : List Sent) (heard : List Heard) (id : TxnId) (epoch : ℕ) (w : Write) : Type 0 where
  pub m : Sent
  pub listed : Contains sent m
  pub put : IsPutOfWrite id epoch w m.request
  pub unheard : is_heard heard m ≡ false

-- The transaction is the open one, or the message did not go out in the open call.
abbrev pub IsOpenOrEarlier : Known → TxnId → Sent → Type 0
IsOpenOrEarlier k id m = ((id ≡ last_of k) × (k.is_open ≡ true)) ⊎ ((s : Statement) → k.statement ≡ Some s → Contains k.sent_now m → ⊥)

-- Each write that is not proved is awaited.
abbrev pub AreAwaited : Known → List Txn → Type 0
AreAwaited k txns = (t : Txn) → Contains txns t → (w : Write) → Contains t.writes w → is_proved w ≡ false
    → (a : IsAwaited k.sent k.heard t.id t.epoch w) × IsOpenOrEarlier k t.id a.m

-- ---- what a write was before

-- The write was this one before: of the same key and sequence, and no less proved.
pub record Was (w w0 : Write) : Type 0 where
  pub key : w.key ≡ w0.key
  pub seq : w.seq ≡ w0.seq
  pub proved : is_proved w ≡ false → is_proved w0 ≡ false

was-itself : (w : Write) → Was w w
was-itself w = record { key = refl; seq = refl; proved = λ is. is }

asked-was : (seq ts : ℕ) (w0 : Write) → Was (asked_again seq ts w0) w0
asked-was seq ts w0 = by (w0.seq == seq)
  where
    by : (b : Bool) → Was (if b then record w0 { asked = w0.asked ++ ts ∷ [] } else w0) w0
    by true = record { key = refl; seq = refl; proved = λ is. is }
    by false = was-itself w0

-- The request lays this write in the epoch.
pub record Lays (id : TxnId) (epoch : ℕ) (request : Request) (w : Write) : Type 0 where
  pub put : IsPutOfWrite id epoch w request

sent-was : (id : TxnId) (epoch : ℕ) (request : Request) (ws : List Write) (w : Write) → Contains (writes_sent id epoch request ws) w → ((w0 : Write) × Contains ws w0 × Was w w0) ⊎ Lays id epoch request w
sent-was id epoch (requests.Put meta seq ts key value) ws w there = by (same_txn meta.id id && meta.epoch == epoch) refl there
  where
    new : Write
    new = record { key = key; seq = seq; value = value; asked = ts ∷ []; proofs = [] }

    put : (b : Bool) → (same_txn meta.id id && meta.epoch == epoch) ≡ true → Contains (if b then map (asked_again seq ts) ws else ws ++ record { key = key; seq = seq; value = value; asked = ts ∷ []; proofs = [] } ∷ []) w
        → ((w0 : Write) × Contains ws w0 × Was w w0) ⊎ Lays id epoch (requests.Put meta seq ts key value) w
    put true is there = let w0 = contains_in_map (asked_again seq ts) ws w there in inl (w0.0, w0.1, subst (λ x. Was x w0.0) w0.2 (asked-was seq ts w0.0))
    put false is there = elim (Contains-push_cases ws new w there) [
      | inl old ↦ inl (w, old, was-itself w)
      | inr same ↦
          let parts = and_parts (same_txn meta.id id) (meta.epoch == epoch) is in
          inr (record { put = (same_txn-is meta.id id parts.0, eqb-true meta.epoch epoch parts.1, ap (λ (x : Write). x.seq) same, ap (λ (x : Write). x.key) same) })
    ]

    by : (b : Bool) → (same_txn meta.id id && meta.epoch == epoch) ≡ b → Contains (if b then with_put seq ts key value ws else ws) w → ((w0 : Write) × Contains ws w0 × Was w w0) ⊎ Lays id epoch (requests.Put meta seq ts key value) w
    by true is there = put (list_any (λ w. w.seq == seq) ws) is there
    by false is there = inl (w, there, was-itself w)
sent-was id epoch request ws w there = inl (w, there, was-itself w)

or-true : (b : Bool) → (b || true) ≡ true
or-true true = refl
or-true false = refl

proved-now : (w0 : Write) (ts : ℕ) → is_proved (record w0 { proofs = w0.proofs ++ ts ∷ [] }) ≡ true
proved-now w0 ts = list_any-append (λ (t : ℕ). true) w0.proofs (ts ∷ []) ∙ or-true (list_any (λ (t : ℕ). true) w0.proofs)

proved-was : (key : List ℕ) (seq ts : ℕ) (w0 : Write) → Was (proved_at key seq ts w0) w0
proved-was key seq ts w0 = by (w0.seq == seq && same_key w0.key key)
  where
    by : (b : Bool) → Was (if b then record w0 { proofs = w0.proofs ++ ts ∷ [] } else w0) w0
    by true = record { key = refl; seq = refl; proved = λ is. let both = sym (proved-now w0 ts) ∙ is in cc both }
    by false = was-itself w0

-- What a reply makes of a write, which is proved where it says that this was written.
pub record Heals (id : TxnId) (epoch : ℕ) (request : Request) (told : Reply) (w w0 : Write) : Type 0 where
  pub was : Was w w0
  pub proves : (ts : ℕ) → told ≡ replies.Written ts → IsPutOfWrite id epoch w0 request → is_proved w ≡ true

put-heals : (id : TxnId) (epoch : ℕ) (request : Request) (key : List ℕ) (seq : ℕ) (told : Reply) (ws : List Write) (w : Write)
    → ((w0 : Write) → IsPutOfWrite id epoch w0 request → (seq ≡ w0.seq) × (key ≡ w0.key))
    → Contains (with_put_reply key seq told ws) w → (w0 : Write) × Contains ws w0 × Heals id epoch request told w w0
put-heals id epoch request key seq (replies.Written at) ws w of there =
    let w0 = contains_in_map (proved_at key seq at) ws w there in (
      w0.0,
      w0.1,
      subst (λ x. Heals id epoch request (replies.Written at) x w0.0) w0.2 (record {
        was = proved-was key seq at w0.0;
        proves = λ ts is put.
            let same = of w0.0 put in
            let hit : (w0.0.seq == seq && same_key w0.0.key key) ≡ true = and_from (w0.0.seq == seq) (same_key w0.0.key key) (eq-eqb w0.0.seq seq (sym same.0)) (ap (λ k. same_key w0.0.key k) same.1 ∙ same_key-self w0.0.key) in
            ap (λ b. is_proved (if b then record w0.0 { proofs = w0.0.proofs ++ at ∷ [] } else w0.0)) hit ∙ proved-now w0.0 at;
      }),
    )
put-heals id epoch request key seq told ws w of there = (w, there, record { was = was-itself w; proves = λ ts is put. cc is })

query-was : (key : List ℕ) (seq ts : ℕ) (told : Reply) (ws : List Write) (w : Write) → Contains (with_query_reply key seq ts told ws) w → (w0 : Write) × Contains ws w0 × Was w w0
query-was key seq ts replies.Found ws w there = let w0 = contains_in_map (proved_at key seq ts) ws w there in (w0.0, w0.1, subst (λ x. Was x w0.0) w0.2 (proved-was key seq ts w0.0))
query-was key seq ts told ws w there = (w, there, was-itself w)

heals : (id : TxnId) (epoch : ℕ) (request : Request) (told : Reply) (ws : List Write) (w : Write) → Contains (writes_replied id epoch request told ws) w → (w0 : Write) × Contains ws w0 × Heals id epoch request told w w0
heals id epoch (requests.Put meta seq ts key value) told ws w there = by (same_txn meta.id id && meta.epoch == epoch) refl there
  where
    by : (b : Bool) → (same_txn meta.id id && meta.epoch == epoch) ≡ b → Contains (if b then with_put_reply key seq told ws else ws) w → (w0 : Write) × Contains ws w0 × Heals id epoch (requests.Put meta seq ts key value) told w w0
    by true is there = put-heals id epoch (requests.Put meta seq ts key value) key seq told ws w (λ w0 put. (put.2, put.3)) there
    by false is there = (
      w,
      there,
      record {
        was = was-itself w;
        proves = λ at told_is put.
            let hit : (same_txn meta.id id && meta.epoch == epoch) ≡ true = and_from (same_txn meta.id id) (meta.epoch == epoch) (ap (λ i. same_txn i id) put.0 ∙ same_txn-self id) (eq-eqb meta.epoch epoch put.1) in
            let both = sym hit ∙ is in cc both;
      },
    )
heals id epoch (requests.Query other at_epoch seq ts key by_who) told ws w there = by (same_txn other id && at_epoch == epoch) there
  where
    by : (b : Bool) → Contains (if b then with_query_reply key seq ts told ws else ws) w → (w0 : Write) × Contains ws w0 × Heals id epoch (requests.Query other at_epoch seq ts key by_who) told w w0
    by true there = let w0 = query-was key seq ts told ws w there in (w0.0, w0.1, record { was = w0.2; proves = λ at is put. absurd put })
    by false there = (w, there, record { was = was-itself w; proves = λ at is put. absurd put })
heals id epoch request told ws w there = (w, there, record { was = was-itself w; proves = λ at is put. absurd put })

-- ---- over each event

put-as : (id : TxnId) (epoch : ℕ) (w w0 : Write) (request : Request) → Was w w0 → IsPutOfWrite id epoch w0 request → IsPutOfWrite id epoch w request
put-as id epoch w w0 (requests.Put meta seq ts key value) was put = (put.0, put.1, put.2 ∙ sym was.seq, put.3 ∙ sym was.key)
put-as id epoch w w0 request was put = put

unheard-more : (heard : List Heard) (h : Heard) (m : Sent) → is_heard heard m ≡ false → (h.number == m.number) ≡ false → is_heard (heard ++ h ∷ []) m ≡ false
unheard-more heard h m old new =
    list_any-append (λ (x : Heard). x.number == m.number) heard (h ∷ [])
    ∙ ap (λ b. b || ((h.number == m.number) || false)) old
    ∙ ap (λ b. b || false) new

module _ (k : Known) (awaited : AreAwaited k k.txns) where
  -- a message is sent
  pub awaited_sent : (later : Known) (number range : ℕ) (request : Request) → later.sent ≡ k.sent ++ record { number = number; range = range; request = request } ∷ [] → later.heard ≡ k.heard → last_of later ≡ last_of k → later.is_open ≡ k.is_open
      → later.statement ≡ k.statement → later.sent_now ≡ k.sent_now ++ record { number = number; range = range; request = request } ∷ []
      → ((m : Sent) → Contains k.sent m → record { number = number; range = range; request = request } ≡ m → ⊥)
      → is_heard k.heard (record { number = number; range = range; request = request }) ≡ false
      → ((id : TxnId) (epoch : ℕ) (w : Write) → Lays id epoch request w → (id ≡ last_of k) × (k.is_open ≡ true))
      → AreAwaited later (map (txn_sent request) k.txns)
  awaited_sent later number range request sent heard last opens stated now other fresh lays u there w written unproved =
      let m0 : Sent = record { number = number; range = range; request = request } in
      let t = contains_in_map (txn_sent request) k.txns u there in
      let inside : Contains (writes_sent t.0.id t.0.epoch request t.0.writes) w = subst (λ (x : Txn). Contains x.writes w) (sym t.2) written in
      let id : t.0.id ≡ u.id = ap (λ (x : Txn). x.id) t.2 in
      let epoch : t.0.epoch ≡ u.epoch = ap (λ (x : Txn). x.epoch) t.2 in
      elim (sent-was t.0.id t.0.epoch request t.0.writes w inside) [
        | inl old ↦
            let a = awaited t.0 t.1 old.0 old.1 (old.2.proved unproved) in (
              record {
                m = a.0.m;
                listed = subst (λ l. Contains l a.0.m) (sym sent) (Contains-append_left k.sent (m0 ∷ []) a.0.m a.0.listed);
                put = subst (λ i. IsPutOfWrite i u.epoch w a.0.m.request) id (subst (λ n. IsPutOfWrite t.0.id n w a.0.m.request) epoch (put-as t.0.id t.0.epoch w old.0 a.0.m.request old.2 a.0.put));
                unheard = subst (λ l. is_heard l a.0.m ≡ false) (sym heard) a.0.unheard;
              },
              elim a.1 [
                | inl is ↦ inl (sym id ∙ is.0 ∙ sym last, opens ∙ is.1)
                | inr earlier ↦ inr (λ s is there_now.
                    elim (Contains-push_cases k.sent_now m0 a.0.m (subst (λ l. Contains l a.0.m) now there_now)) [
                      | inl before ↦ earlier s (sym stated ∙ is) before
                      | inr new ↦ other a.0.m a.0.listed new
                    ])
              ],
            )
        | inr new ↦
            let is = lays t.0.id t.0.epoch w new in (
              record {
                m = m0;
                listed = subst (λ l. Contains l m0) (sym sent) (Contains-push k.sent m0);
                put = subst (λ i. IsPutOfWrite i u.epoch w request) id (subst (λ n. IsPutOfWrite t.0.id n w request) epoch new.put);
                unheard = subst (λ l. is_heard l m0 ≡ false) (sym heard) fresh;
              },
              inl (sym id ∙ is.0 ∙ sym last, opens ∙ is.1),
            )
      ]

  -- a reply is heard
  pub awaited_heard : (later : Known) (g : Option Heard) → later.sent ≡ k.sent → later.heard ≡ k.heard ++ option_to_list g → last_of later ≡ last_of k → later.is_open ≡ k.is_open
      → later.statement ≡ k.statement → later.sent_now ≡ k.sent_now
      → IfSome g (λ h. (MayAnswer h.request h.reply) × (is_conflict h.reply ≡ false) × ((m : Sent) → Contains k.sent m → h.number ≡ m.number → m.request ≡ h.request))
      → AreAwaited later (map (txn_heard k.sent g) k.txns)
  awaited_heard later g sent heard last opens stated now so u there w written unproved =
      let t = contains_in_map (txn_heard k.sent g) k.txns u there in
      let inside : Contains (writes_heard t.0.id t.0.epoch g t.0.writes) w = subst (λ (x : Txn). Contains x.writes w) (sym t.2) written in
      let id : t.0.id ≡ u.id = ap (λ (x : Txn). x.id) t.2 in
      let epoch : t.0.epoch ≡ u.epoch = ap (λ (x : Txn). x.epoch) t.2 in
      let a = by g so t.0 t.1 inside in (
        record {
          m = a.0.m;
          listed = subst (λ l. Contains l a.0.m) (sym sent) a.0.listed;
          put = subst (λ i. IsPutOfWrite i u.epoch w a.0.m.request) id (subst (λ n. IsPutOfWrite t.0.id n w a.0.m.request) epoch a.0.put);
          unheard = subst (λ l. is_heard l a.0.m ≡ false) (sym heard) a.0.unheard;
        },
        elim a.1 [
          | inl is ↦ inl (sym id ∙ is.0 ∙ sym last, opens ∙ is.1)
          | inr earlier ↦ inr (λ s is there_now. earlier s (sym stated ∙ is) (subst (λ l. Contains l a.0.m) now there_now))
        ],
      )
    where
      written-of : (request : Request) (told : Reply) (id0 : TxnId) (epoch0 : ℕ) (w0 : Write) → IsPutOfWrite id0 epoch0 w0 request → MayAnswer request told → is_conflict told ≡ false → (ts : ℕ) × (told ≡ replies.Written ts)
      written-of (requests.Put meta seq ts key value) (replies.Written at) id0 epoch0 w0 put kind clear = (at, refl)
      written-of (requests.Put meta seq ts key value) (replies.Conflict holder at met) id0 epoch0 w0 put kind clear = absurd (cc clear)
      written-of (requests.Put meta seq ts key value) told id0 epoch0 w0 put kind clear = absurd kind
      written-of request told id0 epoch0 w0 put kind clear = absurd put

      answered : (h : Heard) → MayAnswer h.request h.reply → is_conflict h.reply ≡ false → ((m : Sent) → Contains k.sent m → h.number ≡ m.number → m.request ≡ h.request)
          → (id : TxnId) (epoch : ℕ) (w0 : Write) → Heals id epoch h.request h.reply w w0 → (a : IsAwaited k.sent k.heard id epoch w0) → (b : Bool) → (h.number == a.m.number) ≡ b → b ≡ false
      answered h kind clear same id epoch w0 heal a false is = refl
      answered h kind clear same id epoch w0 heal a true is =
          let one = same a.m a.listed (eqb-true h.number a.m.number is) in
          let put : IsPutOfWrite id epoch w0 h.request = subst (IsPutOfWrite id epoch w0) one a.put in
          let wrote = written-of h.request h.reply id epoch w0 put kind clear in
          let proved = heal.proves wrote.0 wrote.1 put in
          let both = sym proved ∙ unproved in cc both

      by : (g : Option Heard) → IfSome g (λ h. (MayAnswer h.request h.reply) × (is_conflict h.reply ≡ false) × ((m : Sent) → Contains k.sent m → h.number ≡ m.number → m.request ≡ h.request)) → (t : Txn) → Contains k.txns t
          → Contains (writes_heard t.id t.epoch g t.writes) w → (a : IsAwaited k.sent (k.heard ++ option_to_list g) t.id t.epoch w) × IsOpenOrEarlier k t.id a.m
      by None so t mine inside = let a = awaited t mine w inside unproved in (record { m = a.0.m; listed = a.0.listed; put = a.0.put; unheard = subst (λ l. is_heard l a.0.m ≡ false) (sym (append-nil k.heard)) a.0.unheard }, a.1)
      by (Some h) so t mine inside =
          let w0 = heals t.id t.epoch h.request h.reply t.writes w inside in
          let a = awaited t mine w0.0 w0.1 (w0.2.was.proved unproved) in (
            record {
              m = a.0.m;
              listed = a.0.listed;
              put = put-as t.id t.epoch w w0.0 a.0.m.request w0.2.was a.0.put;
              unheard =
                  let b = answered h so.0 so.1 so.2 t.id t.epoch w0.0 w0.2 a.0 (h.number == a.0.m.number) refl in
                  unheard-more k.heard h a.0.m a.0.unheard b;
            },
            a.1,
          )
