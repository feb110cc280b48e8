-- What stands in a session's writes: they rise, each is proved before the next one at its key, each proof was an answer to a put or a
-- query; and each put
-- that was sent lays one of them.
use Rattle.std.proofs.Common.{◌≡◌, ℕ, ◌+◌, ◌≤◌, ◌==◌, ◌&&◌, true, false, cond, inl, inr, List, [], ◌∷◌, ◌++◌, map, Option, None, Some, Contains, All, refl, sym, ap, subst, ◌∙◌, arith}
use Rattle.std.proofs.lemmas.Bool.{and_from, eq-eqb}
use Rattle.std.proofs.lemmas.List.Elements.{All-head, All-tail, Contains-append_left, Contains-push, Contains-push_cases}
use Rattle.std.specs.List.{AllByRecursion as Each}
use Rattle.pc_base.specs.declared.actor.ActorId.{ActorId}
use Rattle.pc_base.specs.declared.actor.ActorId.TheVariants as actors
use Rattle.pc_base.specs.declared.entry.Entry.{Entry}
use Rattle.pc_base.specs.declared.transaction.TxnId.{TxnId}
use Rattle.pc_base.specs.Span.{same_key}
use Rattle.pc_base.specs.Transaction.{same_txn}
use Rattle.pc_history.specs.History.{MayFollow}
use Rattle.pc_history.specs.Own.{named_in}
use Rattle.pc_implicit.proofs.Agreed.{agreed, one_txn, open_there}
use Rattle.pc_implicit.proofs.Anchored.{put_anchored}
use Rattle.pc_implicit.proofs.Commits.{act_of}
use Rattle.pc_implicit.proofs.Doing.{Does}
use Rattle.pc_implicit.proofs.Turns.{IsAnswered, Restarted, Turn, WentOn, Wrote, comes_from, none-later, some-there}
use Rattle.pc_implicit.proofs.WriteLists.{AreInTurn, Rise, alike_each, alike_on, alike_rise, alike_turn, rise_push, turn_push}
use Rattle.pc_implicit.proofs.Written.{proven_more}
use Rattle.pc_implicit.specs.Replied.{WasProven}
use Rattle.pc_implicit.specs.Writes.{txns_of}
use Rattle.pc_lists.proofs.Each.{each-append, each-contains, each-weaker}
use Rattle.pc_lists.proofs.Lists.{contains_in_map, contains_map, contains_nil}
use Rattle.pc_lists.proofs.Same.{same_txn-self}
use Rattle.pc_proto.specs.declared.event.Event.{Event}
use Rattle.pc_proto.specs.declared.event.Event.TheVariants as events
use Rattle.pc_proto.specs.declared.meta.TxnMeta.{TxnMeta}
use Rattle.pc_proto.specs.declared.request.Request.TheVariants as requests
use Rattle.pc_world.proofs.Knowing.{known_same, run_push}
use Rattle.pc_world.proofs.Prefixes.{run_induction}
use Rattle.pc_world.specs.After.{known_at}
use Rattle.pc_world.specs.Committed.{anchor_in}
use Rattle.pc_world.specs.Known.{Known, txns_after}
use Rattle.pc_world.specs.Known.Traffic.{heard_by}
use Rattle.pc_world.specs.Known.Transactions.{Txn, txn_sent}
use Rattle.pc_world.specs.Known.Writes.{Write, asked_again, is_proved, last_seq_of, with_put}
use Rattle.pc_world.specs.Local.{Head}
use Rattle.pc_world.specs.Run.{IsRun, protocol}
use Rattle.pc_world.specs.Send.Put.{MaySendPut}

-- Each proof of the write was an answer to a put or a query of it.
abbrev pub AreAnswers : List (Entry Event) → TxnId → ℕ → Write → Type 0
AreAnswers history id epoch w = (p : ℕ) → Contains w.proofs p → WasProven history id epoch w.key w.seq p

-- The writes rise, each is proved before the next one at its key, and each proof was an answer.
pub record AreOrderly (history : List (Entry Event)) (t : Txn) : Type 0 where
  pub rise : Rise 0 t.writes
  pub turn : AreInTurn t.writes
  pub answers : Each (AreAnswers history t.id t.epoch) t.writes

pub all-each : {X : Type 0} (P : X → Type 0) (xs : List X) → All P xs → Each P xs
all-each P [] all = tt
all-each P (x ∷ xs) all = (All-head P x xs all, all-each P xs (All-tail P x xs all))

module _ (head : Head) where
  orderly-turn : (history : List (Entry Event)) (e : Entry Event) (k : Known) (t u : Txn) → u.id ≡ t.id → AreOrderly history t → Turn history e k t u → AreOrderly (history ++ e ∷ []) u
  orderly-turn history e k t u same o (WentOn epoch alike) =
      let New : Write → ℕ → Type 0 = IsAnswered history t in
      record {
        rise = alike_rise New 0 0 t.writes u.writes refl alike o.rise;
        turn = alike_turn New t.writes u.writes alike o.turn;
        answers =
            alike_each New (AreAnswers history t.id t.epoch) (AreAnswers (history ++ e ∷ []) u.id u.epoch) (λ w x old like p there.
            let here : WasProven history t.id t.epoch w.key w.seq p = elim (like.new p there) [ inl before ↦ old p before | inr now ↦ now ] in
            proven_more history e u.id u.epoch x.key x.seq p
            (subst (λ i. WasProven history i u.epoch x.key x.seq p) (sym same)
            (subst (λ n. WasProven history t.id n x.key x.seq p) (sym epoch)
            (subst (λ key. WasProven history t.id t.epoch key x.seq p) (sym like.key)
            (subst (λ seq. WasProven history t.id t.epoch w.key seq p) (sym like.seq) here)))))
            t.writes u.writes alike o.answers;
      }
  orderly-turn history e k t u same o (Wrote w f epoch writes) =
      let old : Each (AreAnswers (history ++ e ∷ []) u.id u.epoch) t.writes =
      each-weaker (AreAnswers history t.id t.epoch) (AreAnswers (history ++ e ∷ []) u.id u.epoch) (λ v h p there.
      proven_more history e u.id u.epoch v.key v.seq p
      (subst (λ i. WasProven history i u.epoch v.key v.seq p) (sym same) (subst (λ n. WasProven history t.id n v.key v.seq p) (sym epoch) (h p there))))
      t.writes o.answers in
      let new : AreAnswers (history ++ e ∷ []) u.id u.epoch w = λ p there. absurd (contains_nil p (subst (λ ps. Contains ps p) f.unproved there)) in
      record {
        rise = subst (Rise 0) (sym writes) (rise_push 0 t.writes w o.rise (let next : w.seq ≡ last_seq_of t.writes + 1 = f.next in omega (arith, next)));
        turn =
            subst AreInTurn (sym writes)
            (turn_push t.writes w o.turn (all-each (λ v. same_key v.key w.key ≡ true → is_proved v ≡ true) t.writes f.earlier));
        answers =
            subst (Each (AreAnswers (history ++ e ∷ []) u.id u.epoch)) (sym writes)
            (each-append (AreAnswers (history ++ e ∷ []) u.id u.epoch) t.writes (w ∷ []) old (new, tt));
      }
  orderly-turn history e k t u same o (Restarted r epoch writes) = record {
    rise = subst (Rise 0) (sym writes) tt;
    turn = subst AreInTurn (sym writes) tt;
    answers = subst (Each (AreAnswers (history ++ e ∷ []) u.id u.epoch)) (sym writes) tt;
  }

  orderly-begun : (history : List (Entry Event)) (u : Txn) → u.writes ≡ [] → AreOrderly history u
  orderly-begun history u none = record {
    rise = subst (Rise 0) (sym none) tt;
    turn = subst AreInTurn (sym none) tt;
    answers = subst (Each (AreAnswers history u.id u.epoch)) (sym none) tt;
  }

  -- a session's writes are orderly
  pub orderly : (history : List (Entry Event)) → IsRun head history → (actor : ActorId) (t : Txn) → Contains (known_at head actor history).txns t → AreOrderly history t
  orderly = run_induction head (λ history. (actor : ActorId) (t : Txn) → Contains (known_at head actor history).txns t → AreOrderly history t)
      (λ actor t there. absurd (contains_nil t there)) (λ history e run may all actor u there.
      elim (comes_from head history run e may actor u there) [
        | inl b ↦ orderly-begun (history ++ e ∷ []) u b.unwritten
        | inr c ↦ orderly-turn history e (known_at head actor history) c.t u c.same (all actor c.t c.there) c.turn
      ])

-- each proof that a session has of a write is an answer to a put or a query of it
pub proofs_were_written : (head : Head) (history : List (Entry Event)) (t : Txn) (w : Write) (ts : ℕ) → IsRun head history → Contains (txns_of head t.id history) t → Contains t.writes w → Contains w.proofs ts
    → WasProven history t.id t.epoch w.key w.seq ts
proofs_were_written head history t w ts run known inside there =
    each-contains (AreAnswers history t.id t.epoch) t.writes w (orderly head history run (actors.Session t.id.session) t known).answers inside ts there

-- The transaction wrote this; or the write is of an earlier epoch.
pub record HasPut (t : Txn) (epoch seq : ℕ) (key : List ℕ) (value : Option (List ℕ)) : Type 0 where
  pub low : epoch ≤ t.epoch
  pub written : epoch ≡ t.epoch → (w : Write) × Contains t.writes w × (w.seq ≡ seq) × (w.key ≡ key) × (w.value ≡ value)

-- The write that a first put lays.
abbrev put-first : ℕ → ℕ → List ℕ → Option (List ℕ) → Write
put-first seq ts key value = record { key = key; seq = seq; value = value; asked = ts ∷ []; proofs = [] }

module _ (head : Head) (history : List (Entry Event)) (run : IsRun head history) (e : Entry Event) (may : MayFollow (protocol head) history e) where
  k : Known
  k = known_at head e.actor history

  put-now : (number range : ℕ) (meta : TxnMeta) (seq ts : ℕ) (key : List ℕ) (value : Option (List ℕ)) → e.event ≡ events.Send number range (requests.Put meta seq ts key value)
      → MaySendPut k meta seq ts key value → (t : Txn) → Contains k.txns t → t.id ≡ meta.id → HasPut (txn_sent (requests.Put meta seq ts key value) t) meta.epoch seq key value
  unfolding k
  put-now number range meta seq ts key value is sent t there same =
      let numbered = (agreed head history run e.actor).numbered in
      elim sent [
        | inl f ↦
            let own : f.t ≡ t = one_txn e.actor (k.begun + 1) k.txns f.t t numbered (open_there k f.t f.opened) there (ap (λ (m : TxnMeta). m.id) (sym f.whose) ∙ sym same) in
            let epoch : meta.epoch ≡ t.epoch = ap (λ (m : TxnMeta). m.epoch) f.whose ∙ ap (λ (x : Txn). x.epoch) own in
            by-first epoch (f.next ∙ ap (λ (x : Txn). last_seq_of x.writes + 1) own)
        | inr a ↦
            let own : a.t ≡ t = one_txn e.actor (k.begun + 1) k.txns a.t t numbered a.mine there (ap (λ (m : TxnMeta). m.id) (sym a.whose.same) ∙ sym same) in
            let epoch : meta.epoch ≡ t.epoch = ap (λ (m : TxnMeta). m.epoch) a.whose.same ∙ ap (λ (x : Txn). x.epoch) own in
            by-again epoch a.w (subst (λ (x : Txn). Contains x.writes a.w) own a.written) a.same_sequence a.same_place a.same_value
      ]
    where
      mine : meta.epoch ≡ t.epoch → (same_txn meta.id t.id && meta.epoch == t.epoch) ≡ true
      mine epoch =
          and_from (same_txn meta.id t.id) (meta.epoch == t.epoch) (ap (same_txn meta.id) same ∙ same_txn-self meta.id) (eq-eqb meta.epoch t.epoch epoch)

      has : (ws : List Write) → meta.epoch ≡ t.epoch → with_put seq ts key value t.writes ≡ ws → ((x : Write) × Contains ws x × (x.seq ≡ seq) × (x.key ≡ key) × (x.value ≡ value))
          → HasPut (txn_sent (requests.Put meta seq ts key value) t) meta.epoch seq key value
      has ws epoch is x =
          let writes : (txn_sent (requests.Put meta seq ts key value) t).writes ≡ ws = ap (λ b. cond b (with_put seq ts key value t.writes) t.writes) (mine epoch) ∙ is in
          record {
            low = omega (arith, epoch);
            written = λ epoch_too. (x.0, subst (λ l. Contains l x.0) (sym writes) x.1, x.2, x.3, x.4);
          }

      by-first : meta.epoch ≡ t.epoch → seq ≡ last_seq_of t.writes + 1 → HasPut (txn_sent (requests.Put meta seq ts key value) t) meta.epoch seq key value
      by-first epoch next =
          let w = put-first seq ts key value in
          has (t.writes ++ w ∷ []) epoch
          (ap (λ b. cond b (map (asked_again seq ts) t.writes) (t.writes ++ w ∷ [])) (none-later 0 seq t.writes (omega (arith, next))).0)
          (w, Contains-push t.writes w, refl, refl, refl)

      by-again : meta.epoch ≡ t.epoch → (v : Write) → Contains t.writes v → seq ≡ v.seq → key ≡ v.key → value ≡ v.value → HasPut (txn_sent (requests.Put meta seq ts key value) t) meta.epoch seq key value
      by-again epoch v inside is_seq is_key is_value =
          has (map (asked_again seq ts) t.writes) epoch
          (ap (λ b. cond b (map (asked_again seq ts) t.writes) (t.writes ++ put-first seq ts key value ∷ [])) (some-there seq t.writes v inside (sym is_seq)))
          (asked_again seq ts v, contains_map (asked_again seq ts) t.writes v inside, asked-seq ∙ sym is_seq, asked-key ∙ sym is_key, asked-value ∙ sym is_value)
        where
          asked-seq : (asked_again seq ts v).seq ≡ v.seq
          asked-seq = elim (v.seq == seq) as (λ b. (cond b (record v { asked = v.asked ++ ts ∷ [] }) v).seq ≡ v.seq) [ true ↦ refl | false ↦ refl ]

          asked-key : (asked_again seq ts v).key ≡ v.key
          asked-key = elim (v.seq == seq) as (λ b. (cond b (record v { asked = v.asked ++ ts ∷ [] }) v).key ≡ v.key) [ true ↦ refl | false ↦ refl ]

          asked-value : (asked_again seq ts v).value ≡ v.value
          asked-value = elim (v.seq == seq) as (λ b. (cond b (record v { asked = v.asked ++ ts ∷ [] }) v).value ≡ v.value) [ true ↦ refl | false ↦ refl ]

  -- the put that is sent lays a write of its transaction
  put_now : (number range : ℕ) (meta : TxnMeta) (seq ts : ℕ) (key : List ℕ) (value : Option (List ℕ)) → e.event ≡ events.Send number range (requests.Put meta seq ts key value)
      → (u : Txn) → Contains (txns_of head meta.id (history ++ e ∷ [])) u → u.id ≡ meta.id → HasPut u meta.epoch seq key value
  unfolding k
  put_now number range meta seq ts key value is u there same =
      let act : Does head e.actor k (events.Send number range (requests.Put meta seq ts key value)) = subst (Does head e.actor k) is (act_of head history e may) in
      let whose = (put_anchored head (history ++ e ∷ []) (run_push head history e run may) e (Contains-push history e) number range meta seq ts key value is).whose in
      let here : Contains (known_at head e.actor (history ++ e ∷ [])).txns u = subst (λ a. Contains (known_at head a (history ++ e ∷ [])).txns u) (sym whose) there in
      let learnt = subst (λ (l : Known). Contains l.txns u) (known_same head e.actor history e refl) here in
      let sent : Contains (map (txn_sent (requests.Put meta seq ts key value)) k.txns) u =
      subst (λ event. Contains (txns_after event (heard_by event (named_in (protocol head) history e.event) k.sent) k) u) is learnt in
      let from = contains_in_map (txn_sent (requests.Put meta seq ts key value)) k.txns u sent in
      let id : from.0.id ≡ meta.id = ap (λ (x : Txn). x.id) from.2 ∙ same in
      subst (λ x. HasPut x meta.epoch seq key value) from.2 (put-now number range meta seq ts key value is act.row from.0 from.1 id)

module _ (head : Head) where
  pub has-turn : (history : List (Entry Event)) (e : Entry Event) (k : Known) (t u : Txn) (epoch seq : ℕ) (key : List ℕ) (value : Option (List ℕ)) → HasPut t epoch seq key value → Turn history e k t u → HasPut u epoch seq key value
  has-turn history e k t u epoch seq key value h (WentOn same alike) =
      let low = h.low in
      record {
        low = omega (arith, low, same);
        written = λ is.
            let w = h.written (is ∙ same) in
            let x = alike_on (IsAnswered history t) t.writes u.writes alike w.0 w.1 in
            let like = x.2 in
            (x.0, x.1, like.seq ∙ w.2, like.key ∙ w.3, like.value ∙ w.4);
      }
  has-turn history e k t u epoch seq key value h (Wrote v f same writes) =
      let low = h.low in
      record {
        low = omega (arith, low, same);
        written = λ is.
            let w = h.written (is ∙ same) in
            (w.0, subst (λ l. Contains l w.0) (sym writes) (Contains-append_left t.writes (v ∷ []) w.0 w.1), w.2, w.3, w.4);
      }
  has-turn history e k t u epoch seq key value h (Restarted r next writes) =
      let low = h.low in
      record { low = omega (arith, low, next); written = λ is. absurd (omega (arith, low, next, is)) }

  -- Each put that was sent lays a write of its transaction.
  abbrev HavePuts : List (Entry Event) → Type 0
  HavePuts history = (a : Entry Event) → Contains history a → (number range : ℕ) (meta : TxnMeta) (seq ts : ℕ) (key : List ℕ) (value : Option (List ℕ)) → a.event ≡ events.Send number range (requests.Put meta seq ts key value)
      → (t : Txn) → Contains (txns_of head meta.id history) t → t.id ≡ meta.id → HasPut t meta.epoch seq key value

  -- each put that was sent lays a write of its transaction
  pub puts_sent : (history : List (Entry Event)) → IsRun head history → (a : Entry Event) → Contains history a
      → (number range : ℕ) (meta : TxnMeta) (seq ts : ℕ) (key : List ℕ) (value : Option (List ℕ)) → a.event ≡ events.Send number range (requests.Put meta seq ts key value)
      → (t : Txn) → Contains (txns_of head meta.id history) t → t.id ≡ meta.id → HasPut t meta.epoch seq key value
  puts_sent = run_induction head HavePuts (λ a there. absurd (contains_nil a there)) (λ history e run may all a there number range meta seq ts key value is u inside same.
      elim (Contains-push_cases history e a there) [
        | inl before ↦ elim (comes_from head history run e may (actors.Session meta.id.session) u inside) [
          | inl b ↦
              let anchored = (put_anchored head history run a before number range meta seq ts key value is).anchor in
              let both : None ≡ Some meta.anchor = sym b.new.anchor ∙ ap (λ i. anchor_in i history) same ∙ anchored in absurd cc
          | inr c ↦
              has-turn history e (known_at head (actors.Session meta.id.session) history) c.t u meta.epoch seq key value
              (all a before number range meta seq ts key value is c.t c.there (sym c.same ∙ same)) c.turn
        ]
        | inr now ↦ put_now head history run e may number range meta seq ts key value (ap (λ (x : Entry Event). x.event) now ∙ is) u inside same
      ])
