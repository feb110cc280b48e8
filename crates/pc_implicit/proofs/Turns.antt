-- How the writes that a session knows of its transaction change over one more entry of a run.
use Rattle.std.proofs.Common.{◌≡◌, ℕ, ◌+◌, ◌<◌, ◌≤◌, max, Bool, true, false, cond, ◌==◌, ◌&&◌, ◌||◌, ◌⊎◌, inl, inr, List, [], ◌∷◌, ◌++◌, map, fold, Option, None, Some, IfSome, Contains, All, IsTrue, refl, sym, ap, subst, ◌∙◌, arith}
use Rattle.std.proofs.lemmas.Bool.{and_parts, eq-eqb, eqb-true, ne_eqb}
use Rattle.std.proofs.lemmas.List.Elements.{Contains-append_left, Contains-push_cases}
use Rattle.std.specs.List.{list_any}
use Rattle.pc_base.specs.declared.actor.ActorId.{ActorId}
use Rattle.pc_base.specs.declared.actor.ActorId.TheVariants as actors
use Rattle.pc_base.specs.declared.entry.Entry.{Entry}
use Rattle.pc_base.specs.declared.transaction.TxnId.{TxnId}
use Rattle.pc_base.specs.Span.{same_key}
use Rattle.pc_base.specs.Transaction.{same_txn}
use Rattle.pc_history.specs.History.{MayFollow}
use Rattle.pc_history.specs.Own.{named_in}
use Rattle.pc_implicit.proofs.Agreed.{IsNew, Knows, agreed, begun_next, one_txn, open_there}
use Rattle.pc_implicit.proofs.Commits.{act_of}
use Rattle.pc_implicit.proofs.Doing.{Does, same_or_not, told_by_row}
use Rattle.pc_implicit.proofs.Hearing.{IsSo, heard-event}
use Rattle.pc_implicit.proofs.WriteLists.{AreAlike, IsAlike, alike-itself, alike_map, alike_themselves}
use Rattle.pc_implicit.specs.Replied.{QueryFound, WasProven, WasReplied, WasWritten}
use Rattle.pc_lists.proofs.Lists.{contains_cons, contains_head, contains_in_map, contains_nil, contains_tail}
use Rattle.pc_lists.proofs.Same.{same_key-is, same_txn-is}
use Rattle.pc_proto.specs.declared.answer.Answer.{Answer}
use Rattle.pc_proto.specs.declared.answer.Answer.TheVariants as answers
use Rattle.pc_proto.specs.declared.event.Event.{Event}
use Rattle.pc_proto.specs.declared.event.Event.TheVariants as events
use Rattle.pc_proto.specs.declared.meta.TxnMeta.{TxnMeta}
use Rattle.pc_proto.specs.declared.reply.Reply.{Reply}
use Rattle.pc_proto.specs.declared.reply.Reply.TheVariants as replies
use Rattle.pc_proto.specs.declared.request.Request.{Request}
use Rattle.pc_proto.specs.declared.request.Request.TheVariants as requests
use Rattle.pc_world.proofs.Knowing.{known_other, known_same}
use Rattle.pc_world.specs.After.{known_at}
use Rattle.pc_world.specs.Known.{Known, first_if, open_txn, told_first, txn_begun, txns_after, txns_told}
use Rattle.pc_world.specs.Known.Statements.{Statement}
use Rattle.pc_world.specs.Known.Traffic.{Heard, heard_by, replies_to}
use Rattle.pc_world.specs.Known.Transactions.{Txn, txn_heard, txn_sent, txn_told}
use Rattle.pc_world.specs.Known.Writes.{Write, asked_again, is_proved, last_seq_of, proved_at, with_put, writes_replied}
use Rattle.pc_world.specs.Local.{Head}
use Rattle.pc_world.specs.Run.{IsRun, protocol}
use Rattle.pc_world.specs.Send.Put.{MaySendFirst, MaySendPut}
use Rattle.pc_world.specs.StageFate.{IsUncommitted}
use Rattle.pc_world.specs.Tell.End.{MayTellRestart}

-- The proof is an answer to a put of this write of the transaction's epoch, or a query found the write.
abbrev pub IsAnswered : List (Entry Event) → Txn → Write → ℕ → Type 0
IsAnswered history t w p = WasProven history t.id t.epoch w.key w.seq p

-- The entry sends a first put of the transaction, which lays this write.
pub record FirstPut (history : List (Entry Event)) (e : Entry Event) (k : Known) (t : Txn) (w : Write) : Type 0 where
  pub number : ℕ
  pub range : ℕ
  pub meta : TxnMeta
  pub ts : ℕ
  pub sends : e.event ≡ events.Send number range (requests.Put meta w.seq ts w.key w.value)
  pub whose : meta.id ≡ t.id
  pub unproved : w.proofs ≡ []
  pub next : w.seq ≡ last_seq_of t.writes + 1
  pub earlier : All (λ v. IsTrue (same_key v.key w.key) → IsTrue (is_proved v)) t.writes
  pub uncommitted : IsUncommitted t.id k.sent k.heard

-- The entry makes the transaction restart.
pub record Restarts (e : Entry Event) (k : Known) (t : Txn) : Type 0 where
  pub key : List ℕ
  pub ts : ℕ
  pub tells : e.event ≡ events.Tell (answers.Restart key ts)
  pub uncommitted : IsUncommitted t.id k.sent k.heard

-- How the transaction changed: at most more was asked and proved, or it wrote for the first time, or it restarted.
pub data Turn (history : List (Entry Event)) (e : Entry Event) (k : Known) (t u : Txn) : Type 0 where
  WentOn : u.epoch ≡ t.epoch → AreAlike (IsAnswered history t) t.writes u.writes → Turn history e k t u
  Wrote : (w : Write) → FirstPut history e k t w → u.epoch ≡ t.epoch → u.writes ≡ t.writes ++ w ∷ [] → Turn history e k t u
  Restarted : Restarts e k t → u.epoch ≡ t.epoch + 1 → u.writes ≡ [] → Turn history e k t u

-- The transaction was begun with the entry.
pub record IsBegun (history : List (Entry Event)) (e : Entry Event) (u : Txn) : Type 0 where
  pub ts : ℕ
  pub tells : e.event ≡ events.Tell (answers.Begun u.id ts)
  pub new : IsNew history u.id
  pub epoch : u.epoch ≡ 0
  pub unwritten : u.writes ≡ []

-- What its session knew of the transaction before the entry.
pub record CameFrom (history : List (Entry Event)) (e : Entry Event) (k : Known) (u : Txn) : Type 0 where
  pub t : Txn
  pub there : Contains k.txns t
  pub same : u.id ≡ t.id
  pub turn : Turn history e k t u

-- Where what a session knows of its transaction comes from.
abbrev pub Comes : List (Entry Event) → Entry Event → Known → Txn → Type 0
Comes history e k u = IsBegun history e u ⊎ CameFrom history e k u

-- a range is no session
pub not_session : (range session : ℕ) → actors.Range range ≡ actors.Session session → ⊥
not_session range session h = absurd cc

pub none-later : (most n : ℕ) (ws : List Write) → fold (λ most w. max most w.seq) most ws < n → (list_any (λ w. w.seq == n) ws ≡ false) × (most ≤ fold (λ most w. max most w.seq) most ws)
none-later most n [] h = (refl, omega arith)
none-later most n (w ∷ ws) h =
    let r = none-later (max most w.seq) n ws h in
    let low : max most w.seq ≤ fold (λ most (v : Write). max most v.seq) (max most w.seq) ws = r.1 in
    let here : (w.seq == n) ≡ false = ne_eqb w.seq n (λ q. absurd (omega (arith, low, h, q))) in
    (ap (λ b. b || list_any (λ v. v.seq == n) ws) here ∙ r.0, omega (arith, low))

pub some-there : (seq : ℕ) (ws : List Write) (w : Write) → Contains ws w → w.seq ≡ seq → list_any (λ v. v.seq == seq) ws ≡ true
some-there seq [] w there is = absurd (contains_nil w there)
some-there seq (x ∷ ws) w there is =
    elim (contains_cons x ws w there) [
      | inl same ↦ ap (λ b. b || list_any (λ v. v.seq == seq) ws) (eq-eqb x.seq seq (ap (λ (y : Write). y.seq) same ∙ is))
      | inr later ↦ by (x.seq == seq) (some-there seq ws w later is)
    ]
  where
    by : (b : Bool) → list_any (λ v. v.seq == seq) ws ≡ true → (b || list_any (λ v. v.seq == seq) ws) ≡ true
    by true later = refl
    by false later = later

asked-alike : (New : Write → ℕ → Type 0) (seq ts : ℕ) (w : Write) → IsAlike New w (asked_again seq ts w)
asked-alike New seq ts w = by (w.seq == seq)
  where
    by : (b : Bool) → IsAlike New w (cond b (record w { asked = w.asked ++ ts ∷ [] }) w)
    by true = record { key = refl; seq = refl; value = refl; kept = λ p there. there; new = λ p there. inl there }
    by false = alike-itself New w

proved-alike : (New : Write → ℕ → Type 0) (key : List ℕ) (seq ts : ℕ) → ((w : Write) → w.seq ≡ seq → w.key ≡ key → New w ts) → (w : Write) → IsAlike New w (proved_at key seq ts w)
proved-alike New key seq ts new w = by (w.seq == seq && same_key w.key key) refl
  where
    by : (b : Bool) → (w.seq == seq && same_key w.key key) ≡ b → IsAlike New w (cond b (record w { proofs = w.proofs ++ ts ∷ [] }) w)
    by true is =
        let parts = and_parts (w.seq == seq) (same_key w.key key) is in
        record {
          key = refl;
          seq = refl;
          value = refl;
          kept = λ p there. Contains-append_left w.proofs (ts ∷ []) p there;
          new = λ p there. elim (Contains-push_cases w.proofs ts p there) [
            | inl before ↦ inl before
            | inr now ↦ inr (subst (New w) now (new w (eqb-true w.seq seq parts.0) (same_key-is w.key key parts.1)))
          ];
        }
    by false is = alike-itself New w

-- One more entry of the transaction's own session.
module _ (head : Head) (history : List (Entry Event)) (run : IsRun head history) (e : Entry Event) (k : Known) (knows : Knows history e.actor k) where
  still : (t u : Txn) → Contains k.txns t → u.id ≡ t.id → u.epoch ≡ t.epoch → u.writes ≡ t.writes → Comes history e k u
  still t u there same epoch writes =
      inr (record { t = t; there = there; same = same; turn = WentOn epoch (subst (AreAlike (IsAnswered history t) t.writes) (sym writes) (alike_themselves (IsAnswered history t) t.writes)) })

  first-put : (number range : ℕ) (meta : TxnMeta) (seq ts : ℕ) (key : List ℕ) (value : Option (List ℕ)) → e.event ≡ events.Send number range (requests.Put meta seq ts key value)
      → MaySendFirst k meta seq ts key value → (t u : Txn) → Contains k.txns t → meta.id ≡ t.id → u.id ≡ t.id → u.epoch ≡ t.epoch → u.writes ≡ with_put seq ts key value t.writes → Comes history e k u
  first-put number range meta seq ts key value is f t u there whose same epoch writes =
      let own : f.t ≡ t = one_txn e.actor (k.begun + 1) k.txns f.t t knows.numbered (open_there k f.t f.opened) there (ap (λ (m : TxnMeta). m.id) (sym f.whose) ∙ whose) in
      let next : seq ≡ last_seq_of t.writes + 1 = f.next ∙ ap (λ (x : Txn). last_seq_of x.writes + 1) own in
      let w : Write = record { key = key; seq = seq; value = value; asked = ts ∷ []; proofs = [] } in
      let fresh : with_put seq ts key value t.writes ≡ t.writes ++ w ∷ [] = ap (λ b. cond b (map (asked_again seq ts) t.writes) (t.writes ++ w ∷ [])) (none-later 0 seq t.writes (omega (arith, next))).0 in
      inr (record {
        t = t;
        there = there;
        same = same;
        turn = Wrote w (record {
          number = number;
          range = range;
          meta = meta;
          ts = ts;
          sends = is;
          whose = whose;
          unproved = refl;
          next = next;
          earlier = subst (λ (x : Txn). All (λ v. IsTrue (same_key v.key key) → IsTrue (is_proved v)) x.writes) own f.earlier;
          uncommitted = subst (λ (x : Txn). IsUncommitted x.id k.sent k.heard) own f.uncommitted;
        }) epoch (writes ∙ fresh);
      })

  put-again : (seq ts : ℕ) (key : List ℕ) (value : Option (List ℕ)) (t u : Txn) → Contains k.txns t → (w : Write) → Contains t.writes w → seq ≡ w.seq → u.id ≡ t.id → u.epoch ≡ t.epoch
      → u.writes ≡ with_put seq ts key value t.writes → Comes history e k u
  put-again seq ts key value t u there w inside is same epoch writes =
      let more : with_put seq ts key value t.writes ≡ map (asked_again seq ts) t.writes =
      ap (λ b. cond b (map (asked_again seq ts) t.writes) (t.writes ++ record { key = key; seq = seq; value = value; asked = ts ∷ []; proofs = [] } ∷ [])) (some-there seq t.writes w inside (sym is)) in
      inr (record {
        t = t;
        there = there;
        same = same;
        turn = WentOn epoch (subst (AreAlike (IsAnswered history t) t.writes) (sym (writes ∙ more)) (alike_map (IsAnswered history t) (asked_again seq ts) (asked-alike (IsAnswered history t) seq ts) t.writes));
      })

  put-comes : (number range : ℕ) (meta : TxnMeta) (seq ts : ℕ) (key : List ℕ) (value : Option (List ℕ)) → e.event ≡ events.Send number range (requests.Put meta seq ts key value)
      → MaySendPut k meta seq ts key value → (t u : Txn) → Contains k.txns t → meta.id ≡ t.id → u.id ≡ t.id → u.epoch ≡ t.epoch → u.writes ≡ with_put seq ts key value t.writes → Comes history e k u
  put-comes number range meta seq ts key value is may t u there whose same epoch writes =
      elim may [
        | inl f ↦ first-put number range meta seq ts key value is f t u there whose same epoch writes
        | inr a ↦
            let own : a.t ≡ t = one_txn e.actor (k.begun + 1) k.txns a.t t knows.numbered a.mine there (ap (λ (m : TxnMeta). m.id) (sym a.whose.same) ∙ whose) in
            put-again seq ts key value t u there a.w (subst (λ (x : Txn). Contains x.writes a.w) own a.written) a.same_sequence same epoch writes
      ]

  sent-comes : (number range : ℕ) (request : Request) → e.event ≡ events.Send number range request → Does head e.actor k (events.Send number range request) → (t : Txn) → Contains k.txns t → Comes history e k (txn_sent request t)
  sent-comes number range (requests.Put meta seq ts key value) is may t there = by (same_txn meta.id t.id && meta.epoch == t.epoch) refl (txn_sent (requests.Put meta seq ts key value) t) refl refl refl
    where
      by : (b : Bool) → (same_txn meta.id t.id && meta.epoch == t.epoch) ≡ b → (u : Txn) → u.id ≡ t.id → u.epoch ≡ t.epoch → u.writes ≡ cond b (with_put seq ts key value t.writes) t.writes → Comes history e k u
      by true own u same epoch writes =
          put-comes number range meta seq ts key value is may.row t u there (same_txn-is meta.id t.id (and_parts (same_txn meta.id t.id) (meta.epoch == t.epoch) own).0) same epoch writes
      by false other u same epoch writes = still t u there same epoch writes
  sent-comes number range request is may t there = still t (txn_sent request t) there refl refl refl

  replied-so : (h : Heard) (request : Request) (reply : Reply) → IsSo head history e.actor h → h.request ≡ request → h.reply ≡ reply → WasReplied history request reply
  replied-so h request reply so asked told = record {
    send = so.send;
    listed = so.listed;
    number = h.number;
    range = so.range;
    sends = so.sends ∙ ap (events.Send h.number so.range) asked;
    eval = so.eval;
    evaluated = so.evaluated;
    told = so.told ∙ ap (events.Eval e.actor h.number) told ∙ ap (λ a. events.Eval a h.number reply) (sym so.whose);
  }

  proved-comes : (key : List ℕ) (seq at : ℕ) (t u : Txn) → WasProven history t.id t.epoch key seq at → Contains k.txns t → u.id ≡ t.id → u.epoch ≡ t.epoch → u.writes ≡ map (proved_at key seq at) t.writes → Comes history e k u
  proved-comes key seq at t u answered there same epoch writes =
      let new : (w : Write) → w.seq ≡ seq → w.key ≡ key → IsAnswered history t w at =
      λ w is_seq is_key. subst (λ n. WasProven history t.id t.epoch w.key n at) (sym is_seq) (subst (λ x. WasProven history t.id t.epoch x seq at) (sym is_key) answered) in
      inr (record {
        t = t;
        there = there;
        same = same;
        turn = WentOn epoch (subst (AreAlike (IsAnswered history t) t.writes) (sym writes) (alike_map (IsAnswered history t) (proved_at key seq at) (proved-alike (IsAnswered history t) key seq at new) t.writes));
      })

  reply-comes : (h : Heard) → IsSo head history e.actor h → (request : Request) → h.request ≡ request → (reply : Reply) → h.reply ≡ reply → (t u : Txn) → Contains k.txns t → u.id ≡ t.id → u.epoch ≡ t.epoch
      → u.writes ≡ writes_replied t.id t.epoch request reply t.writes → Comes history e k u
  reply-comes h so (requests.Put meta seq ts key value) asked (replies.Written at) told t u there same epoch writes = by (same_txn meta.id t.id && meta.epoch == t.epoch) refl writes
    where
      by : (b : Bool) → (same_txn meta.id t.id && meta.epoch == t.epoch) ≡ b → u.writes ≡ cond b (map (proved_at key seq at) t.writes) t.writes → Comes history e k u
      by true own writes =
          let parts = and_parts (same_txn meta.id t.id) (meta.epoch == t.epoch) own in
          let answered : WasWritten history t.id t.epoch key seq at =
          subst (λ i. WasWritten history i t.epoch key seq at) (same_txn-is meta.id t.id parts.0)
          (subst (λ n. WasWritten history meta.id n key seq at) (eqb-true meta.epoch t.epoch parts.1) (record { meta = meta; asked = ts; value = value; whose = refl; epoch_is = refl; replied = replied-so h (requests.Put meta seq ts key value) (replies.Written at) so asked told })) in
          proved-comes key seq at t u (inl answered) there same epoch writes
      by false other writes = still t u there same epoch writes
  reply-comes h so (requests.Put meta seq ts key value) asked reply told t u there same epoch writes = still t u there same epoch (writes ∙ same-either (same_txn meta.id t.id && meta.epoch == t.epoch) t.writes)
    where
      same-either : (b : Bool) (ws : List Write) → cond b ws ws ≡ ws
      same-either true ws = refl
      same-either false ws = refl
  reply-comes h so (requests.Query id epoch_at seq ts key asker) asked replies.Found told t u there same epoch writes = by (same_txn id t.id && epoch_at == t.epoch) refl writes
    where
      by : (b : Bool) → (same_txn id t.id && epoch_at == t.epoch) ≡ b → u.writes ≡ cond b (map (proved_at key seq ts) t.writes) t.writes → Comes history e k u
      by true own writes =
          let parts = and_parts (same_txn id t.id) (epoch_at == t.epoch) own in
          let found : QueryFound history t.id t.epoch key seq ts =
          subst (λ i. QueryFound history i t.epoch key seq ts) (same_txn-is id t.id parts.0)
          (subst (λ n. QueryFound history id n key seq ts) (eqb-true epoch_at t.epoch parts.1) (record { by = asker; replied = replied-so h (requests.Query id epoch_at seq ts key asker) replies.Found so asked told })) in
          proved-comes key seq ts t u (inr found) there same epoch writes
      by false other writes = still t u there same epoch writes
  reply-comes h so (requests.Query id epoch_at seq ts key asker) asked reply told t u there same epoch writes = still t u there same epoch (writes ∙ same-either (same_txn id t.id && epoch_at == t.epoch) t.writes)
    where
      same-either : (b : Bool) (ws : List Write) → cond b ws ws ≡ ws
      same-either true ws = refl
      same-either false ws = refl
  reply-comes h so request asked reply told t u there same epoch writes = still t u there same epoch writes

  heard-comes : (h : Option Heard) → IfSome h (IsSo head history e.actor) → (t : Txn) → Contains k.txns t → Comes history e k (txn_heard k.sent h t)
  heard-comes None so t there = still t (txn_heard k.sent None t) there refl refl refl
  heard-comes (Some h) so t there = reply-comes h so h.request refl h.reply refl t (txn_heard k.sent (Some h) t) there refl refl refl

  restart-comes : (key : List ℕ) (ts : ℕ) (replied : List Heard) → e.event ≡ events.Tell (answers.Restart key ts) → (s : Statement) → MayTellRestart k s key ts → (t : Txn) → Contains k.txns t
      → open_txn k ≡ Some t → Comes history e k (txn_told (answers.Restart key ts) replied t)
  restart-comes key ts replied is s row t there opened =
      let own : row.t ≡ t = let both : Some row.t ≡ Some t = sym row.opened ∙ opened in cc in
      inr (record {
        t = t;
        there = there;
        same = refl;
        turn = Restarted (record { key = key; ts = ts; tells = is; uncommitted = subst (λ (x : Txn). IsUncommitted x.id k.sent k.heard) own row.uncommitted }) refl refl;
      })

  told-comes : (answer : Answer) (replied : List Heard) → e.event ≡ events.Tell answer → Does head e.actor k (events.Tell answer) → (t : Txn) → Contains k.txns t → open_txn k ≡ Some t → Comes history e k (txn_told answer replied t)
  told-comes (answers.Restart key ts) replied is may t there opened =
      restart-comes key ts replied is may.s (told_by_row head e.actor k (answers.Restart key ts) may (λ h. absurd cc) (λ h. absurd cc)) t there opened
  told-comes answer replied is may t there opened = still t (txn_told answer replied t) there refl refl refl

  answered-comes : (answer : Answer) (replied : List Heard) → e.event ≡ events.Tell answer → Does head e.actor k (events.Tell answer)
      → (u : Txn) → Contains (cond k.is_open (told_first answer replied k.txns) k.txns) u → Comes history e k u
  answered-comes answer replied is may u there = by k.is_open k.txns refl refl there
    where
      by : (b : Bool) (txns : List Txn) → k.is_open ≡ b → k.txns ≡ txns → Contains (cond b (told_first answer replied txns) txns) u → Comes history e k u
      by true [] opened whole there = absurd (contains_nil u there)
      by true (t ∷ ts) opened whole there =
          let first : Contains k.txns t = subst (λ l. Contains l t) (sym whole) (contains_head t ts) in
          let own : open_txn k ≡ Some t = (λ i. first_if (opened i) (whole i)) in
          elim (contains_cons (txn_told answer replied t) ts u there) [
            | inl same ↦ subst (Comes history e k) same (told-comes answer replied is may t first own)
            | inr later ↦ still u u (subst (λ l. Contains l u) (sym whole) (contains_tail t ts u later)) refl refl refl
          ]
      by false txns opened whole there = still u u (subst (λ l. Contains l u) (sym whole) there) refl refl refl

  begun-comes : (s : Option Statement) (id : TxnId) (ts : ℕ) → e.event ≡ events.Tell (answers.Begun id ts) → IsNew history id → Comes history e k (txn_begun s id ts)
  begun-comes None id ts is new = inl (record { ts = ts; tells = is; new = new; epoch = refl; unwritten = refl })
  begun-comes (Some s) id ts is new = inl (record { ts = ts; tells = is; new = new; epoch = refl; unwritten = refl })

  tell-comes : (answer : Answer) → e.event ≡ events.Tell answer → Does head e.actor k (events.Tell answer) → (u : Txn) → Contains (txns_told answer k) u → Comes history e k u
  tell-comes (answers.Begun id ts) is may u there =
      elim (contains_cons (txn_begun k.statement id ts) k.txns u there) [
        | inl same ↦
            let next = begun_next head e.actor k id ts may in
            subst (Comes history e k) same (begun-comes k.statement id ts is (knows.fresh id next.0 (omega (arith, next.1))))
        | inr before ↦ still u u before refl refl refl
      ]
  tell-comes answer is may u there = answered-comes answer (replies_to k.sent_now k.heard_now) is may u there

  event-comes : (event : Event) → e.event ≡ event → Does head e.actor k event → (h : Option Heard) → IfSome h (IsSo head history e.actor) → (u : Txn) → Contains (txns_after event h k) u → Comes history e k u
  event-comes (events.Send number range request) is may h so u there =
      let from = contains_in_map (txn_sent request) k.txns u there in
      subst (Comes history e k) from.2 (sent-comes number range request is may from.0 from.1)
  event-comes (events.Hear number step) is may h so u there =
      let from = contains_in_map (txn_heard k.sent h) k.txns u there in
      subst (Comes history e k) from.2 (heard-comes h so from.0 from.1)
  event-comes (events.Tell answer) is may h so u there = tell-comes answer is may u there
  event-comes event is may h so u there = still u u there refl refl refl

module _ (head : Head) (history : List (Entry Event)) (run : IsRun head history) (e : Entry Event) (may : MayFollow (protocol head) history e) where
  -- where what an actor knows of a transaction after the entry comes from
  pub comes_from : (actor : ActorId) (u : Txn) → Contains (known_at head actor (history ++ e ∷ [])).txns u → Comes history e (known_at head actor history) u
  comes_from actor u there =
      elim (same_or_not e.actor actor) [
        | inl same ↦
            subst (λ a. Comes history e (known_at head a history) u) same
            (event-comes head history run e (known_at head e.actor history) (agreed head history run e.actor) e.event refl (act_of head history e may)
            (heard_by e.event (named_in (protocol head) history e.event) (known_at head e.actor history).sent) (heard-event head history run e.actor e.event may.caused) u
            (subst (λ (l : Known). Contains l.txns u) (known_same head e.actor history e refl)
            (subst (λ a. Contains (known_at head a (history ++ e ∷ [])).txns u) (sym same) there)))
        | inr differ ↦
            let k = known_at head actor history in
            still-known k u (subst (λ (l : Known). Contains l.txns u) (known_other head actor history e differ) there)
      ]
    where
      still-known : (k : Known) (u : Txn) → Contains k.txns u → Comes history e k u
      still-known k u there = inr (record { t = u; there = there; same = refl; turn = WentOn refl (alike_themselves (IsAnswered history u) u.writes) })
