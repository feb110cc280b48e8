-- A stage is dead, or it lists what its transaction wrote last: each write of the present epoch is listed or was proved at or below it, and
-- none is later at a listed key.
use Rattle.std.proofs.Common.{◌≡◌, ℕ, ◌+◌, ◌<◌, ◌≤◌, Bool, true, false, not, ◌⊎◌, inl, inr, List, [], ◌∷◌, ◌++◌, None, Some, All, Contains, refl, sym, ap, subst, ◌∙◌, arith}
use Rattle.std.proofs.lemmas.List.Elements.{All-contains, Contains-append_left}
use Rattle.pc_base.specs.declared.actor.ActorId.{ActorId}
use Rattle.pc_base.specs.declared.actor.ActorId.TheVariants as actors
use Rattle.pc_base.specs.declared.entry.Entry.{Entry}
use Rattle.pc_implicit.proofs.Agreed.{agreed, one_txn, open_there}
use Rattle.pc_implicit.proofs.Hearing.{WasSentBy, sent_is_so}
use Rattle.pc_implicit.proofs.Metas.{subject_anchored}
use Rattle.pc_implicit.proofs.PutsSent.{AreOrderly, orderly, puts_sent}
use Rattle.pc_implicit.proofs.StagesKnown.{HasSent, dead_more, heard_goes_on, none_sent, sent_cases, stage_of, stage_sent}
use Rattle.pc_implicit.proofs.StagesRefuted.{dead_refuted}
use Rattle.pc_implicit.proofs.StagesSent.{has_sent_stage, staged_txn}
use Rattle.pc_implicit.proofs.StageWords.{IsKnownLast, LaterIsRefuted, StagesLast}
use Rattle.pc_implicit.proofs.Turns.{IsAnswered, Restarted, Turn, WentOn, Wrote, comes_from}
use Rattle.pc_implicit.proofs.WriteLists.{AreAlike, AreInTurn, IsAlike, Rise, alike_back, alike_on}
use Rattle.pc_implicit.specs.Writes.{txns_of}
use Rattle.pc_lists.proofs.Each.{each-contains}
use Rattle.pc_lists.proofs.Lists.{contains_cons, contains_filter, contains_in_filter, contains_in_map, contains_map, contains_nil}
use Rattle.pc_lists.proofs.Same.{same_key-equal}
use Rattle.pc_proto.specs.declared.answer.Answer.TheVariants as answers
use Rattle.pc_proto.specs.declared.event.Event.{Event}
use Rattle.pc_proto.specs.declared.event.Event.TheVariants as events
use Rattle.pc_proto.specs.declared.meta.TxnMeta.{TxnMeta}
use Rattle.pc_proto.specs.declared.request.Request.TheVariants as requests
use Rattle.pc_world.proofs.Prefixes.{run_induction}
use Rattle.pc_world.specs.After.{known_at}
use Rattle.pc_world.specs.Committed.{anchor_in}
use Rattle.pc_world.specs.Known.{Known}
use Rattle.pc_world.specs.Known.Traffic.{Heard}
use Rattle.pc_world.specs.Known.Transactions.{Txn}
use Rattle.pc_world.specs.Known.Writes.{IsProvedBy, Write, is_proved, listed_as, unproved}
use Rattle.pc_world.specs.Local.{Head}
use Rattle.pc_world.specs.Run.{IsRun}
use Rattle.pc_world.specs.Send.Stage.{MaySendNewStage}
use Rattle.pc_world.specs.StageFate.{IsDead, SentStage, stage_request}

-- ---- writes

rise-above : (n : ℕ) (ws : List Write) (w : Write) → Rise n ws → Contains ws w → n < w.seq
rise-above n [] w rise there = absurd (contains_nil w there)
rise-above n (x ∷ ws) w rise there =
    elim (contains_cons x ws w there) [
      | inl same ↦ subst (λ (y : Write). n < y.seq) same rise.0
      | inr later ↦ let above = rise-above x.seq ws w rise.1 later in omega (arith, above, rise.0)
    ]

-- a write that is not proved is the last one at its key
unproved-last : (n : ℕ) (ws : List Write) → Rise n ws → AreInTurn ws → (v w : Write) → Contains ws v → Contains ws w → is_proved v ≡ false → v.key ≡ w.key → w.seq ≤ v.seq
unproved-last n [] rise turn v w a b unproved same = absurd (contains_nil v a)
unproved-last n (x ∷ ws) rise turn v w a b unproved same =
    elim (contains_cons x ws v a) [
      | inl first ↦ elim (contains_cons x ws w b) [
        | inl also ↦ let eq : v.seq ≡ w.seq = ap (λ (y : Write). y.seq) (sym first ∙ also) in omega (arith, eq)
        | inr later ↦
            let proved : is_proved x ≡ true = turn.0 w later (same_key-equal x.key w.key (ap (λ (y : Write). y.key) first ∙ same)) in
            let both : true ≡ false = sym proved ∙ ap is_proved first ∙ unproved in absurd cc
      ]
      | inr rest ↦ elim (contains_cons x ws w b) [
        | inl also ↦ let above = rise-above x.seq ws v rise.1 rest in let eq : x.seq ≡ w.seq = ap (λ (y : Write). y.seq) also in omega (arith, above, eq)
        | inr later ↦ unproved-last x.seq ws rise.1 turn.1 v w rest later unproved same
      ]
    ]

-- a proof of a write is one of what it becomes
proved-on : (New : Write → ℕ → Type 0) (ts : ℕ) (w x : Write) → IsAlike New w x → IsProvedBy ts w → IsProvedBy ts x
proved-on New ts w x like (n, p, inside, at, low) = let there = like.kept p (n, inside, at) in (there.0, p, there.1, there.2, low)

pair-of : (w x : Write) → x.key ≡ w.key → x.seq ≡ w.seq → (writes : List (List ℕ × ℕ)) → Contains writes (w.key, w.seq) → Contains writes (x.key, x.seq)
pair-of w x key seq writes there = subst (Contains writes) (λ i. (sym key i, sym seq i)) there

-- ---- one more entry

module _ (head : Head) (history : List (Entry Event)) (e : Entry Event) (k : Known) (more : List Heard) (s : SentStage) (t u : Txn) where
  -- what is known of a stage that was sent before
  last-turn : HasSent k.sent (stage_request s) → s.meta.id ≡ t.id → IsKnownLast k.heard t s → Turn history e k t u → IsKnownLast (k.heard ++ more) u s
  last-turn sent whose l (WentOn epoch alike) =
      let New : Write → ℕ → Type 0 = IsAnswered history t in
      let low : s.meta.epoch ≤ t.epoch = l.epoch_low in
      record {
        epoch_low = omega (arith, low, epoch);
        lists = elim l.lists [
          | inl dead ↦ inl (dead_more k.heard more s dead)
          | inr listed ↦
              inr (
                listed.0 ∙ sym epoch,
                record {
                  last = λ x there w inside key.
                      let old = alike_back New t.writes u.writes alike w inside in
                      let like = old.2 in
                      let seq : w.seq ≡ old.0.seq = like.seq in
                      let before = listed.1.last x there old.0 old.1 (sym like.key ∙ key) in
                      omega (arith, seq, before);
                  covered = λ w inside.
                      let old = alike_back New t.writes u.writes alike w inside in
                      let like = old.2 in
                      elim (listed.1.covered old.0 old.1) [
                        | inl there ↦ inl (pair-of old.0 w like.key like.seq s.writes there)
                        | inr proved ↦ inr (proved-on New s.ts old.0 w like proved)
                      ];
                },
              )
        ];
        written = λ same x there.
            let old = l.written (same ∙ epoch) x there in
            let new = alike_on New t.writes u.writes alike old.0 old.1 in
            let like = new.2 in
            (new.0, new.1, like.key ∙ old.2, like.seq ∙ old.3);
      }
  last-turn sent whose l (Wrote w f epoch writes) =
      let low : s.meta.epoch ≤ t.epoch = l.epoch_low in
      record {
        epoch_low = omega (arith, low, epoch);
        lists = inl (dead_more k.heard more s (stage_of t.id (IsDead k.heard) k.sent f.uncommitted.stages s whose sent));
        written = λ same x there.
            let old = l.written (same ∙ epoch) x there in
            (old.0, subst (λ ws. Contains ws old.0) (sym writes) (Contains-append_left t.writes (w ∷ []) old.0 old.1), old.2, old.3);
      }
  last-turn sent whose l (Restarted r epoch writes) =
      let low : s.meta.epoch ≤ t.epoch = l.epoch_low in
      record {
        epoch_low = omega (arith, low, epoch);
        lists = inl (dead_more k.heard more s (stage_of t.id (IsDead k.heard) k.sent r.uncommitted.stages s whose sent));
        written = λ same x there. absurd (omega (arith, low, epoch, same));
      }

  -- a stage that is new lists what is not proved
  module _ (new : MaySendNewStage k s) (own : new.t ≡ t) (o : AreOrderly history t) where
    in-flight : s.writes ≡ listed_as (unproved t.writes)
    in-flight = new.in_flight ∙ ap (λ (x : Txn). listed_as (unproved x.writes)) own

    listed-from : (x : List ℕ × ℕ) → Contains s.writes x → (v : Write) × Contains t.writes v × (is_proved v ≡ false) × ((v.key, v.seq) ≡ x)
    listed-from x there =
        let from = contains_in_map (λ (w : Write). (w.key, w.seq)) (unproved t.writes) x (subst (λ l. Contains l x) in-flight there) in
        let passes = contains_filter (λ w. not (is_proved w)) t.writes from.0 from.1 in
        (from.0, passes.0, un (is_proved from.0) passes.1, from.2)
      where
        un : (b : Bool) → not b ≡ true → b ≡ false
        un true h = absurd cc
        un false h = refl

    listed-if : (w : Write) → Contains t.writes w → (b : Bool) → is_proved w ≡ b → Contains s.writes (w.key, w.seq) ⊎ IsProvedBy s.ts w
    listed-if w there true proved =
        inr (All-contains (λ (v : Write). is_proved v ≡ true → IsProvedBy s.ts v) t.writes w (subst (λ (x : Txn). All (λ v. is_proved v ≡ true → IsProvedBy s.ts v) x.writes) own new.proved) there proved)
    listed-if w there false open_yet =
        inl (subst (λ l. Contains l (w.key, w.seq)) (sym in-flight)
        (contains_map (λ (v : Write). (v.key, v.seq)) (unproved t.writes) w (contains_in_filter (λ v. not (is_proved v)) t.writes w there (ap not open_yet))))

    new-known : u.epoch ≡ t.epoch → AreAlike (IsAnswered history t) t.writes u.writes → IsKnownLast (k.heard ++ more) u s
    new-known epoch alike =
        let New : Write → ℕ → Type 0 = IsAnswered history t in
        let same : s.meta.epoch ≡ t.epoch = ap (λ (m : TxnMeta). m.epoch) new.whose.same ∙ ap (λ (x : Txn). x.epoch) own in
        record {
          epoch_low = omega (arith, same, epoch);
          lists =
              inr (
                same ∙ sym epoch,
                record {
                  last = λ x there w inside key.
                      let old = alike_back New t.writes u.writes alike w inside in
                      let like = old.2 in
                      let v = listed-from x there in
                      let before = unproved-last 0 t.writes o.rise o.turn v.0 old.0 v.1 old.1 v.2 (ap (λ (p : List ℕ × ℕ). p.0) v.3 ∙ sym key ∙ like.key) in
                      let seq : w.seq ≡ old.0.seq = like.seq in
                      let at : v.0.seq ≡ x.1 = ap (λ (p : List ℕ × ℕ). p.1) v.3 in
                      omega (arith, before, seq, at);
                  covered = λ w inside.
                      let old = alike_back New t.writes u.writes alike w inside in
                      let like = old.2 in
                      elim (listed-if old.0 old.1 (is_proved old.0) refl) [
                        | inl there ↦ inl (pair-of old.0 w like.key like.seq s.writes there)
                        | inr proved ↦ inr (proved-on New s.ts old.0 w like proved)
                      ];
                },
              );
          written = λ now x there.
              let v = listed-from x there in
              let later = alike_on New t.writes u.writes alike v.0 v.1 in
              let like = later.2 in
              (later.0, later.1, like.key ∙ ap (λ (p : List ℕ × ℕ). p.0) v.3, like.seq ∙ ap (λ (p : List ℕ × ℕ). p.1) v.3);
        }

module _ (head : Head) where
  KnowLast : List (Entry Event) → Type 0
  KnowLast history =
      (actor : ActorId) (s : SentStage) → HasSent (known_at head actor history).sent (stage_request s) → (t : Txn) → Contains (known_at head actor history).txns t → t.id ≡ s.meta.id → IsKnownLast (known_at head actor history).heard t s

  -- a stage that was sent is of a transaction with an anchor
  pub anchored-so : (history : List (Entry Event)) → IsRun head history → (actor : ActorId) (s : SentStage) → HasSent (known_at head actor history).sent (stage_request s) → (anchor : List ℕ) × (anchor_in s.meta.id history ≡ Some anchor)
  anchored-so history run actor s (n, m, inside, at, asks) =
      let w = each-contains (WasSentBy head history actor) (known_at head actor history).sent m (sent_is_so head history run actor) (n, inside, at) in
      let a = subject_anchored head history run w.send w.listed m.number m.range (stage_request s) s.meta.id (w.sends ∙ ap (events.Send m.number m.range) asks) refl in
      (a.anchor, a.anchored)

  know-last : (history : List (Entry Event)) → IsRun head history → (actor : ActorId) (s : SentStage) → HasSent (known_at head actor history).sent (stage_request s) → (t : Txn) → Contains (known_at head actor history).txns t → t.id ≡ s.meta.id
      → IsKnownLast (known_at head actor history).heard t s
  unfolding KnowLast
  know-last = run_induction head KnowLast (λ actor s sent t there whose. absurd (none_sent (stage_request s) sent)) (λ history e run may all actor s sent u there whose.
      let k = known_at head actor history in
      let more = heard_goes_on head history e actor in
      let goal : (heard : List Heard) → Type 0 = λ heard. IsKnownLast heard u s in
      subst goal (sym more.1)
      (elim (comes_from head history run e may actor u there) [
        | inl b ↦ elim (sent_cases head history e actor (stage_request s) sent) [
          | inl old ↦
              let a = anchored-so history run actor s old in
              let both : None ≡ Some a.0 = sym b.new.anchor ∙ ap (λ i. anchor_in i history) whose ∙ a.1 in absurd cc
          | inr now ↦ let both : events.Tell (answers.Begun u.id b.ts) ≡ events.Send now.number now.range (stage_request s) = sym b.tells ∙ now.sends in absurd cc
        ]
        | inr c ↦
            let named : s.meta.id ≡ c.t.id = sym whose ∙ c.same in
            let before : HasSent k.sent (stage_request s) → IsKnownLast (k.heard ++ more.0) u s =
            λ old. last-turn head history e k more.0 s c.t u old named (all actor s old c.t c.there (sym named)) c.turn in
            elim (sent_cases head history e actor (stage_request s) sent) [
              | inl old ↦ before old
              | inr now ↦ elim (stage_sent head history e may actor s now) [
                | inl old ↦ before old
                | inr new ↦
                    let own : new.t ≡ c.t = one_txn actor (k.begun + 1) k.txns new.t c.t (agreed head history run actor).numbered (open_there k new.t new.opened) c.there (ap (λ (m : TxnMeta). m.id) (sym new.whose.same) ∙ named) in
                    by history e run actor s u c.t now.number now.range now.sends new own (orderly head history run actor c.t c.there) more.0 c.turn
              ]
            ]
      ]))
    where
      by : (history : List (Entry Event)) (e : Entry Event) → IsRun head history → (actor : ActorId) (s : SentStage) (u t : Txn) (number range : ℕ) → e.event ≡ events.Send number range (stage_request s)
          → (new : MaySendNewStage (known_at head actor history) s) → new.t ≡ t → AreOrderly history t → (more : List Heard) → Turn history e (known_at head actor history) t u → IsKnownLast ((known_at head actor history).heard ++ more) u s
      by history e run actor s u t number range sends new own o more (WentOn epoch alike) = new-known head history e (known_at head actor history) more s t u new own o epoch alike
      by history e run actor s u t number range sends new own o more (Wrote w f epoch writes) =
          let both : events.Send number range (stage_request s) ≡ events.Send f.number f.range (requests.Put f.meta w.seq f.ts w.key w.value) = sym sends ∙ f.sends in absurd cc
      by history e run actor s u t number range sends new own o more (Restarted r epoch writes) =
          let both : events.Send number range (stage_request s) ≡ events.Tell (answers.Restart r.key r.ts) = sym sends ∙ r.tells in absurd cc

  -- Each stage that was sent is dead, or lists what was written last.
  pub stages_last : (history : List (Entry Event)) → IsRun head history → StagesLast head history
  stages_last history run s sent t there whose = know-last history run (actors.Session s.meta.id.session) s (has_sent_stage head history run s sent) t there whose

  -- Where a put that is newer than a listed write of an open stage was sent, the stage has a refuted write.
  pub later_is_refuted : (history : List (Entry Event)) → IsRun head history → LaterIsRefuted head history
  later_is_refuted history run s sent opened w listed send there number range meta seq ts value sends newer =
      let (t, mine, named) = staged_txn head history run s sent in
      let known = stages_last history run s sent t mine named in
      let put =
      puts_sent head history run send there number range meta seq ts w.0 value sends t (subst (λ i. Contains (txns_of head i history) t) (sym newer.whose) mine) (named ∙ sym newer.whose) in
      elim known.lists [
        | inl dead ↦ dead_refuted head history run s sent opened dead
        | inr last ↦
            let reached : s.meta.epoch ≤ meta.epoch = newer.epoch_reached in
            let low : meta.epoch ≤ t.epoch = put.low in
            let now : s.meta.epoch ≡ t.epoch = last.0 in
            let v = put.written (omega (arith, reached, low, now)) in
            let most : v.0.seq ≤ w.1 = last.1.last w listed v.0 v.1 v.3 in
            let past : w.1 < seq = newer.seq_past (omega (arith, reached, low, now)) in
            let at : v.0.seq ≡ seq = v.2 in
            absurd (omega (arith, most, past, at))
      ]

-- a new stage lists the last write at each listed key
pub new_last : (head : Head) (history : List (Entry Event)) (e : Entry Event) (k : Known) (s : SentStage) (t : Txn) (new : MaySendNewStage k s) → new.t ≡ t → AreOrderly history t
    → (x : List ℕ × ℕ) → Contains s.writes x → (w : Write) → Contains t.writes w → w.key ≡ x.0 → w.seq ≤ x.1
new_last head history e k s t new own o x there w inside key =
    let v = listed-from head history e k [] s t t new own o x there in
    let before = unproved-last 0 t.writes o.rise o.turn v.0 w v.1 inside v.2 (ap (λ (p : List ℕ × ℕ). p.0) v.3 ∙ sym key) in
    let at : v.0.seq ≡ x.1 = ap (λ (p : List ℕ × ℕ). p.1) v.3 in
    omega (arith, before, at)
