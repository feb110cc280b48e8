-- Where a stage is open and known to be late or dead, one of its writes was refuted; and a record stages as one stage that was sent.
use Rattle.std.proofs.Common.{◌≡◌, ℕ, ◌<◌, ◌≤◌, ◌==◌, nat_le, nat_lt, Bool, true, false, cond, ◌&&◌, not, inl, inr, List, [], ◌∷◌, None, Some, Contains, refl, sym, ap, subst, ◌∙◌, arith}
use Rattle.std.proofs.lemmas.Bool.{and_cases, and_from, and_parts, eq-eqb, eqb-true, leb-false, ltb-true, or_cases}
use Rattle.pc_implicit.proofs.Views.{undecided_from}
use Rattle.pc_base.specs.declared.actor.ActorId.{ActorId}
use Rattle.pc_base.specs.declared.actor.ActorId.TheVariants as actors
use Rattle.pc_base.specs.declared.entry.Entry.{Entry}
use Rattle.pc_base.specs.Span.{same_key}
use Rattle.pc_base.specs.Transaction.{same_txn}
use Rattle.pc_implicit.proofs.CommitsSent.{IsBeyond, beyond-on}
use Rattle.pc_implicit.proofs.Did.{session_at}
use Rattle.pc_implicit.proofs.HeardViews.{asked_home, replied_of, so_of}
use Rattle.pc_implicit.proofs.StagesSent.{has_sent_stage}
use Rattle.pc_implicit.proofs.StagePairs.{stages_paired}
use Rattle.pc_implicit.proofs.StagesKnown.{HasSent, dead_is_late}
use Rattle.pc_implicit.proofs.StageWords.{RefutedIf, SomeRefuted}
use Rattle.pc_implicit.specs.Decided.{decision, epoch_of, time_of}
use Rattle.pc_implicit.specs.Replied.{WasReplied}
use Rattle.pc_implicit.specs.Stages.{IsOpenTo, WasStaged}
use Rattle.pc_implicit.specs.Writes.{home_of}
use Rattle.pc_lists.proofs.Lists.{contains_head, contains_tail}
use Rattle.pc_lists.proofs.Same.{same_key-is, same_txn-is}
use Rattle.pc_proto.specs.declared.event.Event.{Event}
use Rattle.pc_proto.specs.declared.record.Standing.{Standing}
use Rattle.pc_proto.specs.declared.record.Standing.TheVariants as standings
use Rattle.pc_proto.specs.declared.reply.Reply.{Reply}
use Rattle.pc_proto.specs.declared.reply.Reply.TheVariants as replies
use Rattle.pc_proto.specs.declared.request.Request.{Request}
use Rattle.pc_proto.specs.declared.request.Request.TheVariants as requests
use Rattle.pc_proto.specs.Place.{Place, Nothing, Kept, Marked, Become, Stay, after, is_final, status_view, view_of}
use Rattle.pc_proto.specs.RecordRows.{answer}
use Rattle.pc_proto.specs.RecordRows.Reached.{alive_at, is_staging, status_of}
use Rattle.pc_world.specs.After.{known_at, place_at}
use Rattle.pc_world.specs.Known.Traffic.{Heard}
use Rattle.pc_world.specs.Known.Transactions.{lists_write}
use Rattle.pc_world.specs.Local.{Head}
use Rattle.pc_world.specs.Run.{IsRun}
use Rattle.pc_world.specs.Send.Stage.{IsPassed}
use Rattle.pc_world.specs.StageFate.{IsDead, IsLate, IsLateByRecord, RefutesWrite, SentStage, is_past_stage, is_write_refuted, shows_past, stage_request}

-- the write of a key and sequence that the list has
pub listed_there : (key : List ℕ) (seq : ℕ) (writes : List (List ℕ × ℕ)) → lists_write key seq writes ≡ true → Contains writes (key, seq)
listed_there key seq [] h = absurd cc
listed_there key seq (w ∷ ws) h =
    elim (or_cases (same_key w.0 key && w.1 == seq) (lists_write key seq ws) h) [
      | inl here ↦
          let parts = and_parts (same_key w.0 key) (w.1 == seq) here in
          let same : w ≡ (key, seq) = λ i. (same_key-is w.0 key parts.0 i, eqb-true w.1 seq parts.1 i) in
          subst (λ x. Contains (x ∷ ws) (key, seq)) (sym same) (contains_head (key, seq) ws)
      | inr later ↦ contains_tail w ws (key, seq) (listed_there key seq ws later)
    ]

-- ---- a record that does not stage as the stage asks is past it

-- the stage's own record is not past it
stages-itself : (epoch ts : ℕ) → not (epoch == epoch && ts == ts) ≡ true → ⊥
stages-itself epoch ts h =
    let same : (epoch == epoch && ts == ts) ≡ true = and_from (epoch == epoch) (ts == ts) (eq-eqb epoch epoch refl) (eq-eqb ts ts refl) in
    let both : false ≡ true = ap not (sym same) ∙ h in absurd cc

staged-not-past : (s : SentStage) (standing : Standing) (epoch ts : ℕ) (writes : List (List ℕ × ℕ)) (locks : List (List ℕ)) → (is_staging standing && (epoch == s.meta.epoch && ts == s.ts)) ≡ true → is_past_stage s (status_view standing epoch ts writes locks) ≡ true → ⊥
staged-not-past s standings.Staging epoch ts writes locks is past = let both : false ≡ true = ap not (sym is) ∙ past in absurd cc
staged-not-past s standings.Pending epoch ts writes locks is past = absurd cc
staged-not-past s standings.Committed epoch ts writes locks is past = absurd cc
staged-not-past s (standings.Aborted why) epoch ts writes locks is past = absurd cc

-- an undecided record that a stage leaves another way is past it
pub stage_passes : (s : SentStage) (p : Place) → decision p ≡ None → shows_past s (answer (stage_request s) p) ≡ true → IsBeyond s.meta.epoch s.ts p
stage_passes s Nothing none h = absurd (stages-itself s.meta.epoch s.ts h)
stage_passes s (Kept r) none h =
    by (is_final r.status.standing) refl (nat_le r.status.epoch s.meta.epoch && nat_le r.status.ts s.ts) refl (is_staging r.status.standing && (r.status.epoch == s.meta.epoch && r.status.ts == s.ts)) refl h
  where
    staged : Place
    staged = Kept (record { meta = s.meta; status = status_of standings.Staging s.meta.epoch s.ts; activity = alive_at (Kept r) s.now; writes = s.writes; locks = s.locks })

    by : (b : Bool) → is_final r.status.standing ≡ b → (c : Bool) → (nat_le r.status.epoch s.meta.epoch && nat_le r.status.ts s.ts) ≡ c
        → (d : Bool) → (is_staging r.status.standing && (r.status.epoch == s.meta.epoch && r.status.ts == s.ts)) ≡ d
        → is_past_stage s (view_of (after (Kept r) (cond b Stay (cond (c && not d)
        (Become (record { meta = s.meta; status = status_of standings.Staging s.meta.epoch s.ts; activity = alive_at (Kept r) s.now; writes = s.writes; locks = s.locks })) Stay)))) ≡ true
        → IsBeyond s.meta.epoch s.ts (Kept r)
    by true final c reached d at h = let both : None ≡ Some r.status = sym none ∙ ap (λ b. cond b (Some r.status) None) final in absurd cc
    by false final c reached true at h = absurd (staged-not-past s r.status.standing r.status.epoch r.status.ts r.writes r.locks at (sym (same-view c) ∙ h))
      where
        same-view : (c : Bool) → is_past_stage s (view_of (after (Kept r) (cond (c && not true)
            (Become (record { meta = s.meta; status = status_of standings.Staging s.meta.epoch s.ts; activity = alive_at (Kept r) s.now; writes = s.writes; locks = s.locks })) Stay))) ≡ is_past_stage s (view_of (Kept r))
        same-view true = refl
        same-view false = refl
    by false final true reached false at h = absurd (stages-itself s.meta.epoch s.ts h)
    by false final false reached false at h =
        elim (and_cases (nat_le r.status.epoch s.meta.epoch) (nat_le r.status.ts s.ts) reached) [
          | inl epoch ↦ inl (leb-false r.status.epoch s.meta.epoch epoch)
          | inr time ↦ inr (leb-false r.status.ts s.ts time)
        ]
stage_passes s (Marked m) none h = absurd cc

-- a reply that refutes a write says which
pub refutes_one : (history : List (Entry Event)) (s : SentStage) (h : Heard) → WasReplied history h.request h.reply → RefutesWrite s h → SomeRefuted history s
refutes_one history s h replied r = by h.request h.reply replied r.refuted
  where
    by : (request : Request) (reply : Reply) → WasReplied history request reply → is_write_refuted s request reply ≡ true → SomeRefuted history s
    by (requests.Put meta seq at key value) (replies.Written ts) replied is =
        let halves = and_parts (same_txn meta.id s.meta.id && meta.epoch == s.meta.epoch) (lists_write key seq s.writes && nat_lt s.ts ts) is in
        let left = and_parts (same_txn meta.id s.meta.id) (meta.epoch == s.meta.epoch) halves.0 in
        let right = and_parts (lists_write key seq s.writes) (nat_lt s.ts ts) halves.1 in
        record {
          write = (key, seq);
          listed = listed_there key seq s.writes right.0;
          refuted =
              inl (record {
                at = ts;
                above = ltb-true s.ts ts right.1;
                written = record {
                  meta = meta;
                  asked = at;
                  value = value;
                  whose = same_txn-is meta.id s.meta.id left.0;
                  epoch_is = eqb-true meta.epoch s.meta.epoch left.1;
                  replied = replied;
                };
              });
        }
    by (requests.Query id epoch seq at key who) replies.Missing replied is =
        let halves = and_parts (same_txn id s.meta.id && epoch == s.meta.epoch) (at == s.ts && lists_write key seq s.writes) is in
        let left = and_parts (same_txn id s.meta.id) (epoch == s.meta.epoch) halves.0 in
        let right = and_parts (at == s.ts) (lists_write key seq s.writes) halves.1 in
        let same : requests.Query id epoch seq at key who ≡ requests.Query s.meta.id s.meta.epoch seq s.ts key who =
        λ i. requests.Query (same_txn-is id s.meta.id left.0 i) (eqb-true epoch s.meta.epoch left.1 i) seq (eqb-true at s.ts right.0 i) key who in
        record {
          write = (key, seq);
          listed = listed_there key seq s.writes right.1;
          refuted = inr (record { by = who; replied = subst (λ q. WasReplied history q replies.Missing) same replied });
        }
    by request reply replied is = absurd cc

module _ (head : Head) (history : List (Entry Event)) (run : IsRun head history) where
  -- ---- what a session heard

  -- the record of an undecided transaction is past a stage that was told so
  pub late_beyond : (actor : ActorId) (s : SentStage) → decision (home_of head s.meta.id history) ≡ None → IsLateByRecord (known_at head actor history).heard s → IsBeyond s.meta.epoch s.ts (home_of head s.meta.id history)
  late_beyond actor s none (n, h, inside, at, past) =
      let a = asked_home head history run actor h (so_of head history run actor h (n, inside, at)) s.meta.id (stage_request s) past.asked refl in
      let p = place_at head a.range s.meta.id a.front in
      beyond-on s.meta.epoch s.ts p (home_of head s.meta.id history) a.stands.rises
      (stage_passes s p (undecided_from p (home_of head s.meta.id history) a.stands none) (ap (shows_past s) (sym a.answers) ∙ past.past))

  open_not_beyond : (s : SentStage) → IsOpenTo head history s → IsBeyond s.meta.epoch s.ts (home_of head s.meta.id history) → ⊥
  open_not_beyond s opened beyond =
      let epoch = opened.epoch_low in
      let ts = opened.ts_low in
      elim beyond [ inl later ↦ omega (arith, later, epoch) | inr above ↦ omega (arith, above, ts) ]

  -- an open stage that is known to be late has a refuted write
  pub late_refuted : RefutedIf IsLate head history
  late_refuted s sent opened (n, h, inside, at, why) =
      let actor : ActorId = actors.Session s.meta.id.session in
      elim why [
        | inl refutes ↦ refutes_one history s h (replied_of head history actor h (so_of head history run actor h (n, inside, at)) h.request h.reply refl refl) refutes
        | inr past ↦ absurd (open_not_beyond s opened (late_beyond actor s opened.undecided (n, h, inside, at, past)))
      ]

  -- so has one that is known to be dead
  pub dead_refuted : RefutedIf IsDead head history
  dead_refuted s sent opened dead = late_refuted s sent opened (dead_is_late (known_at head (actors.Session s.meta.id.session) history).heard s dead)

  -- a stage that is passed at the timestamp of another, and is open, lies below it
  passed-below : (s : SentStage) (ts : ℕ) → IsOpenTo head history s → IsPassed (session_at head s.meta.id history).heard ts s → s.ts < ts
  passed-below s ts opened passed =
      elim passed [
        | inl late ↦ late.1
        | inr past ↦ absurd (open_not_beyond s opened (late_beyond (actors.Session s.meta.id.session) s opened.undecided past))
      ]

  -- two stages of one epoch and timestamp are one, where a record is not past them
  pub one_staged : (s x : SentStage) → WasStaged history s → WasStaged history x → x.meta.id ≡ s.meta.id → x.meta.epoch ≡ s.meta.epoch → x.ts ≡ s.ts → IsOpenTo head history s → x ≡ s
  one_staged s x sent also id epoch ts opened =
      let actor : ActorId = actors.Session s.meta.id.session in
      let known : HasSent (session_at head s.meta.id history).sent (stage_request x) = subst (λ i. HasSent (session_at head i history).sent (stage_request x)) id (has_sent_stage head history run x also) in
      let home_is : home_of head x.meta.id history ≡ home_of head s.meta.id history = ap (λ i. home_of head i history) id in
      let epoch_low : epoch_of (home_of head s.meta.id history) ≤ s.meta.epoch = opened.epoch_low in
      let ts_low : time_of (home_of head s.meta.id history) ≤ s.ts = opened.ts_low in
      let other : IsOpenTo head history x = record {
        undecided = ap decision home_is ∙ opened.undecided;
        epoch_low = subst (λ p. epoch_of p ≤ x.meta.epoch) (sym home_is) (omega (arith, epoch_low, epoch));
        ts_low = subst (λ p. time_of p ≤ x.ts) (sym home_is) (omega (arith, ts_low, ts));
      } in
      elim (stages_paired head history run actor s x (has_sent_stage head history run s sent) known (sym id)) [
        | inl same ↦ sym same
        | inr passed ↦ elim passed [
          | inl first ↦ let below = passed-below s x.ts opened first in absurd (omega (arith, below, ts))
          | inr second ↦
              let below = passed-below x s.ts other (subst (λ i. IsPassed (session_at head i history).heard s.ts x) (sym id) second) in absurd (omega (arith, below, ts))
        ]
      ]
