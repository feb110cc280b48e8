-- A staging that fails goes on to fail, unless its transaction is decided committed at its timestamp.
use Rattle.std.proofs.Common.{◌≡◌, ℕ, ◌<◌, ◌≤◌, max, nat_le, Bool, true, false, ◌&&◌, if◌then◌else◌, ◌==◌, not, inl, inr, List, [], ◌∷◌, ◌++◌, fold, Option, None, Some, Contains, refl, sym, ap, subst, ◌∙◌, arith}
use Rattle.std.proofs.lemmas.Bool.{and_from, eqb-true, le-leb}
use Rattle.std.proofs.lemmas.List.Elements.{Contains-push}
use Rattle.std.specs.List.{AllByRecursion as Each}
use Rattle.pc_base.specs.declared.actor.ActorId.TheVariants as actors
use Rattle.pc_base.specs.declared.entry.Entry.{Entry}
use Rattle.pc_base.specs.declared.transaction.TxnId.{TxnId}
use Rattle.pc_base.specs.declared.transaction.Who.{Who}
use Rattle.pc_history.specs.History.{MayFollow}
use Rattle.pc_implicit.proofs.CommittedElsewhere.{IsOff, at-most, off_more, off_now, version_over}
use Rattle.pc_implicit.proofs.Did.{one_known}
use Rattle.pc_implicit.proofs.Doing.{Does}
use Rattle.pc_implicit.proofs.EvaluatedAt.{sent_at}
use Rattle.pc_implicit.proofs.FoundThere.{staging_heard}
use Rattle.pc_implicit.proofs.HeardViews.{replied_of, so_of}
use Rattle.pc_implicit.proofs.HomeOver.{ChangesPlace, home_over}
use Rattle.pc_implicit.proofs.Homes.{home_on}
use Rattle.pc_implicit.proofs.ImplicitFails.{Fails, IsInEpoch, SinceMissed, StaysUnproven, WhereCommitted, WhileStaged, in_epoch_before, the_txn, unproven_more, wrote_more}
use Rattle.pc_implicit.proofs.LeavesBy.{ByAbort, ByCommit, ByFound, ByMissing, ByStage, Stages, leaves_by}
use Rattle.pc_implicit.proofs.Missing.{missed_stays}
use Rattle.pc_implicit.proofs.OwnStanding.{own_hold}
use Rattle.pc_implicit.proofs.Presence.{is_there, refuted_absent, refuted_more}
use Rattle.pc_implicit.proofs.PutsSent.{HasPut, orderly}
use Rattle.pc_implicit.proofs.SettledNow.{own-kept, unwritten-at}
use Rattle.pc_implicit.proofs.SettledVersions.{last-of}
use Rattle.pc_implicit.proofs.StagedAs.{staged_along}
use Rattle.pc_implicit.proofs.StageWords.{WasRefuted}
use Rattle.pc_implicit.proofs.StagesLast.{stages_last}
use Rattle.pc_implicit.proofs.StagesRefuted.{listed_there}
use Rattle.pc_implicit.proofs.StaysOrRefuted.{replied_along}
use Rattle.pc_implicit.proofs.WriteLists.{Laid, RiseAt, each_low, last_low, rise_at, rise_last, written_at}
use Rattle.pc_implicit.proofs.Written.{missed_more}
use Rattle.pc_implicit.specs.Decided.{decision, time_of}
use Rattle.pc_implicit.specs.Replied.{QueryMissed, WasProven, WasReplied}
use Rattle.pc_implicit.specs.Stages.{IsThere, WasStaged}
use Rattle.pc_implicit.specs.Writes.{home_of, own_intent, txns_of, writes_on}
use Rattle.pc_lists.proofs.Each.{each-contains, each-weaker}
use Rattle.pc_proto.specs.declared.event.Event.{Event}
use Rattle.pc_proto.specs.declared.event.Event.TheVariants as events
use Rattle.pc_proto.specs.declared.fate.Finding.TheVariants as findings
use Rattle.pc_proto.specs.declared.record.Record.{Record}
use Rattle.pc_proto.specs.declared.record.Standing.TheVariants as standings
use Rattle.pc_proto.specs.declared.record.Status.{Status}
use Rattle.pc_proto.specs.declared.reply.Reply.TheVariants as replies
use Rattle.pc_proto.specs.declared.request.Request.{Request}
use Rattle.pc_proto.specs.declared.request.Request.TheVariants as requests
use Rattle.pc_proto.specs.Intents.{last_seq}
use Rattle.pc_proto.specs.Place.{Kept, Become, Stay, after, is_final}
use Rattle.pc_proto.specs.RecordRows.{place_change}
use Rattle.pc_proto.specs.RecordRows.Reached.{alive_at, is_staging, status_of}
use Rattle.pc_proto.specs.RecordRows.Stage.{stage}
use Rattle.pc_proto.specs.Requests.{subject}
use Rattle.pc_world.proofs.Knowing.{run_push}
use Rattle.pc_world.proofs.Prefixes.{run_front}
use Rattle.pc_world.specs.After.{known_at}
use Rattle.pc_world.specs.Evaluation.{intents_after}
use Rattle.pc_world.specs.Known.Transactions.{Txn}
use Rattle.pc_world.specs.Local.{Head}
use Rattle.pc_world.specs.RangeState.{RangeState}
use Rattle.pc_world.specs.Run.{IsRun, protocol}
use Rattle.pc_world.specs.Send.Recovery.{MaySendRecover}
use Rattle.pc_world.specs.StageFate.{SentStage, stage_request}

-- a request to a record changes no intent
keeps-intents : (request : Request) (id : TxnId) → subject request ≡ Some id → (s : RangeState) → intents_after request s ≡ s.intents
keeps-intents (requests.Put meta seq ts key value) id about s = absurd cc
keeps-intents (requests.Resolve one key fate) id about s = absurd cc
keeps-intents request id about s = refl

-- a stage that a staging record does not have yet, and that reaches it, makes it stage so
stage-makes : (r : Record) (s : SentStage) → r.status.standing ≡ standings.Staging → r.status.epoch ≤ s.meta.epoch → r.status.ts ≤ s.ts → (s.meta.epoch ≡ r.status.epoch → s.ts ≡ r.status.ts → ⊥)
    → (now : Record) × (after (Kept r) (place_change (stage_request s) (Kept r)) ≡ Kept now) × (now.status ≡ status_of standings.Staging s.meta.epoch s.ts)
stage-makes r s staging epoch ts differ =
    let now : Record = record { meta = s.meta; status = status_of standings.Staging s.meta.epoch s.ts; activity = alive_at (Kept r) s.now; writes = s.writes; locks = s.locks } in
    let undecided : is_final r.status.standing ≡ false = ap is_final staging in
    let reached : (nat_le r.status.epoch s.meta.epoch && nat_le r.status.ts s.ts) ≡ true =
    and_from (nat_le r.status.epoch s.meta.epoch) (nat_le r.status.ts s.ts) (le-leb r.status.epoch s.meta.epoch epoch) (le-leb r.status.ts s.ts ts) in (
      now,
      ap (λ b. after (Kept r) (if b then Stay else stage s.meta s.ts s.now s.writes s.locks (Kept r))) undecided
          ∙ ap (λ b. after (Kept r) (if b && not (is_staging r.status.standing && (r.status.epoch == s.meta.epoch && r.status.ts == s.ts)) then Become now else Stay)) reached
          ∙ by (r.status.epoch == s.meta.epoch && r.status.ts == s.ts) refl (is_staging r.status.standing),
      refl,
    )
  where
    now : Record
    now = record { meta = s.meta; status = status_of standings.Staging s.meta.epoch s.ts; activity = alive_at (Kept r) s.now; writes = s.writes; locks = s.locks }

    same-no : (b c : Bool) → (r.status.epoch == s.meta.epoch) ≡ b → (r.status.ts == s.ts) ≡ c → (b && c) ≡ true → ⊥
    same-no true true e t h = differ (sym (eqb-true r.status.epoch s.meta.epoch e)) (sym (eqb-true r.status.ts s.ts t))
    same-no true false e t h = cc h
    same-no false c e t h = cc h

    by : (d : Bool) → (r.status.epoch == s.meta.epoch && r.status.ts == s.ts) ≡ d → (b : Bool) → after (Kept r) (if true && not (b && d) then Become now else Stay) ≡ Kept now
    by true same b = absurd (same-no (r.status.epoch == s.meta.epoch) (r.status.ts == s.ts) refl refl same)
    by false other true = refl
    by false other false = refl

-- What is laid at the key by a write of the transaction.
put-laid : (t : Txn) (epoch : ℕ) (w : List ℕ × ℕ) (value : Option (List ℕ)) → HasPut t epoch w.1 w.0 value → epoch ≡ t.epoch → Contains (writes_on w.0 t.writes) (w.1, value)
put-laid t epoch w value put same =
    let v = put.written same in
    let laid_as : Laid = (v.0.seq, v.0.value) in
    let is : laid_as ≡ (w.1, value) = (λ i. (v.2 i, v.4 i)) in
    subst (Contains (writes_on w.0 t.writes)) is (written_at w.0 t.writes v.0 v.1 v.3)

-- One more entry of the run of a staging that fails.
module _ (head : Head) (s : SentStage) (history : List (Entry Event)) (run : IsRun head history) (e : Entry Event) (may : MayFollow (protocol head) history e) (sent : WasStaged history s) (g : IsInEpoch head (history ++ e ∷ []) s) where
  whole : IsRun head (history ++ e ∷ [])
  whole = run_push head history e run may

  before-g : IsInEpoch head history s
  before-g = in_epoch_before head s history run e may g

  fails-as : (f : Fails head history s) → StaysUnproven head (history ++ e ∷ []) s f.w → Fails head (history ++ e ∷ []) s
  unfolding whole
  fails-as f stays = record {
    w = f.w;
    value = f.value;
    wrote = wrote_more head s history run e may sent f.w f.value f.wrote;
    unproven = unproven_more head s history e run whole may (staged_along history (e ∷ []) s sent) g f.w stays f.unproven;
    stays = stays;
  }

  -- it was decided committed above the staged timestamp
  where-committed : (f : Fails head history s) (epoch at : ℕ) → decision (home_of head s.meta.id history) ≡ Some (status_of standings.Committed epoch at) → s.ts < at → IsOff head history s.meta.id f.w.0 s.ts → Fails head (history ++ e ∷ []) s
  unfolding before-g
  where-committed f epoch at decided above off =
      let (t, mine, named, same) = the_txn head s history run sent before-g in
      let laid_there = put-laid t s.meta.epoch f.w f.value (f.wrote t mine named) (sym same) in
      fails-as f
      (WhereCommitted epoch at ((home_on head s.meta.id history e).decided (status_of standings.Committed epoch at) decided) above
      (off_more head s.meta.id f.w.0 s.ts history run e may off (version_over head s.meta.id f.w.0 s.ts history run epoch at decided above t mine named (f.w.1, f.value) laid_there)))

  since-missed : (f : Fails head history s) (seq at : ℕ) → seq ≤ f.w.1 → s.ts ≤ at → QueryMissed history s.meta.id s.meta.epoch f.w.0 seq at → Fails head (history ++ e ∷ []) s
  since-missed f seq at before high missed = fails-as f (SinceMissed seq at before high (missed_more history e s.meta.id s.meta.epoch f.w.0 seq at missed))

  -- The record stages, and one of the stage's writes is refuted.
  module _ (f : Fails head history s) (r : Record) (home : home_of head s.meta.id history ≡ Kept r) (staging : r.status.standing ≡ standings.Staging) (epoch_low : s.meta.epoch ≤ r.status.epoch) (ts_low : s.ts ≤ r.status.ts) (refuted : WasRefuted history s f.w) where
    undecided : decision (home_of head s.meta.id history) ≡ None
    undecided = ap decision home ∙ ap (λ standing. if is_final standing then Some r.status else None) staging

    -- the entry decides it committed above the staged timestamp
    commits-above : (c : ChangesPlace head history e s.meta.id (home_of head s.meta.id history) (home_of head s.meta.id (history ++ e ∷ []))) (epoch at : ℕ)
        → decision (home_of head s.meta.id (history ++ e ∷ [])) ≡ Some (status_of standings.Committed epoch at) → s.ts < at → Fails head (history ++ e ∷ []) s
    unfolding whole undecided
    commits-above c epoch at decided above =
        let now = history ++ e ∷ [] in
        let sent_now = staged_along history (e ∷ []) s sent in
        let (t, mine, named, same) = the_txn head s now whole sent_now g in
        let laid_there = put-laid t s.meta.epoch f.w f.value (wrote_more head s history run e may sent f.w f.value f.wrote t mine named) (sym same) in
        fails-as f
        (WhereCommitted epoch at decided above
        (off_now head s.meta.id f.w.0 s.ts now whole epoch at decided above t mine named (f.w.1, f.value) laid_there
        (λ i own i_epoch i_whole low.
        let kept = own-kept head history e s.meta.id epoch at c.actor c.number c.told c.is c.ev (keeps-intents c.ev.request s.meta.id c.about) f.w.0 in
        let last : f.w.1 ≤ last_seq i =
        each-contains (λ (x : Laid). x.0 ≤ last_seq i) i.history (f.w.1, f.value) (each_low i.history) (subst (λ l. Contains l (f.w.1, f.value)) (sym i_whole) laid_there) in
        refuted_absent head history run s f.w undecided refuted
        (is_there s f.w head history (i, sym kept ∙ own, record { epoch_is = i_epoch ∙ same; has = last; low = low })))))

    strictly : (at : ℕ) → s.ts ≤ at → (at ≡ s.ts → ⊥) → s.ts < at
    strictly at low differ = elim (at-most at s.ts) [ inl below ↦ absurd (differ (omega (arith, low, below))) | inr above ↦ above ]

    -- What a recovery missed.
    module _ (c : ChangesPlace head history e s.meta.id (home_of head s.meta.id history) (home_of head s.meta.id (history ++ e ∷ []))) (anchor key : List ℕ) (by : Who)
        (asks : c.ev.request ≡ requests.Recover s.meta.id r.status.epoch r.status.ts anchor (findings.Missing key by)) where
      sends-recovery : c.ev.send.event ≡ events.Send c.number c.ev.range (requests.Recover s.meta.id r.status.epoch r.status.ts anchor (findings.Missing key by))
      sends-recovery = c.ev.sends ∙ ap (events.Send c.number c.ev.range) asks

      -- A write that a stage of the record's epoch and timestamp lists, and that a query missed there.
      record IsMissedThere : Type 0 where
        x : SentStage
        x_sent : WasStaged history x
        x_whose : x.meta.id ≡ s.meta.id
        x_epoch : x.meta.epoch ≡ r.status.epoch
        seq : ℕ
        listed : Contains x.writes (key, seq)
        missed : QueryMissed history s.meta.id r.status.epoch key seq r.status.ts

      missed-there : IsMissedThere
      unfolding sends-recovery
      missed-there =
          let a = c.ev.send in
          let at = sent_at head history run a c.ev.listed in
          let joined : at.before ++ (a ∷ at.later) ≡ history = sym at.whole in
          let run_before : IsRun head at.before = run_front head at.before (a ∷ at.later) (subst (IsRun head) at.whole run) in
          let act : Does head a.actor (known_at head a.actor at.before) (events.Send c.number c.ev.range (requests.Recover s.meta.id r.status.epoch r.status.ts anchor (findings.Missing key by))) =
          subst (Does head a.actor (known_at head a.actor at.before)) sends-recovery at.does in
          let row : MaySendRecover a.actor (known_at head a.actor at.before) s.meta.id r.status.epoch r.status.ts anchor (findings.Missing key by) = act.row in
          let (n, h, inside, here, m) = row.found.1 in
          let query : Request = requests.Query s.meta.id r.status.epoch m.seq r.status.ts key by in
          let replied : WasReplied history query replies.Missing =
          replied_along at.before (a ∷ at.later) history joined query replies.Missing
          (replied_of head at.before a.actor h (so_of head at.before run_before a.actor h (n, inside, here)) query replies.Missing m.asked m.told) in
          let seen = staging_heard head at.before run_before a.actor s.meta.id r.status.epoch r.status.ts row.writes row.staging in
          record {
            x = seen.stage;
            x_sent = subst (λ y. WasStaged y seen.stage) joined (staged_along at.before (a ∷ at.later) seen.stage seen.sent);
            x_whose = seen.whose;
            x_epoch = seen.epoch_is;
            seq = m.seq;
            listed = subst (λ ws. Contains ws (key, m.seq)) (sym seen.writes_are) (listed_there key m.seq row.writes m.listed);
            missed = record { by = by; replied = replied };
          }

      -- so the staging fails by the last write at that key
      recovery-misses : (f : Fails head history s) × (seq at : ℕ) × (seq ≤ f.w.1) × (s.ts ≤ at) × QueryMissed history s.meta.id s.meta.epoch f.w.0 seq at
      unfolding before-g undecided missed-there
      recovery-misses =
          let m = missed-there in
          let (t, mine, named, same) = the_txn head s history run sent before-g in
          let own : Contains (txns_of head t.id history) t = subst (λ i. Contains (txns_of head i history) t) (sym named) mine in
          let known = stages_last head history run m.x m.x_sent t (subst (λ i. Contains (txns_of head i history) t) (sym m.x_whose) mine) (named ∙ sym m.x_whose) in
          let x_low : m.x.meta.epoch ≤ t.epoch = known.epoch_low in
          let x_epoch : m.x.meta.epoch ≡ r.status.epoch = m.x_epoch in
          let epochs : r.status.epoch ≡ s.meta.epoch = omega (arith, x_low, x_epoch, epoch_low, same) in
          let v = known.written (omega (arith, x_epoch, epochs, same)) (key, m.seq) m.listed in
          let v_there : Contains (writes_on key t.writes) (v.0.seq, v.0.value) = written_at key t.writes v.0 v.1 v.2 in
          let l = last-of (writes_on key t.writes) (v.0.seq, v.0.value) v_there in
          let rise = rise_at key 0 t.writes (orderly head history run (actors.Session t.id.session) t own).rise in
          let most : fold (λ most (y : Laid). max most y.0) 0 (writes_on key t.writes) ≡ l.1.0 =
          ap (fold (λ most (y : Laid). max most y.0) 0) l.2 ∙ rise_last 0 l.0 l.1 (subst (RiseAt 0) l.2 rise) in
          let all_low : Each (λ (y : Laid). y.0 ≤ l.1.0) (writes_on key t.writes) = subst (λ n. Each (λ (y : Laid). y.0 ≤ n) (writes_on key t.writes)) most (each_low (writes_on key t.writes)) in
          let v_low : v.0.seq ≤ l.1.0 = each-contains (λ (y : Laid). y.0 ≤ l.1.0) (writes_on key t.writes) (v.0.seq, v.0.value) all_low v_there in
          let v_seq : v.0.seq ≡ m.seq = v.3 in
          let wl = unwritten-at key t.writes l.1 (subst (λ ys. Contains ys l.1) (sym l.2) (Contains-push l.0 l.1)) in
          let missed : QueryMissed history s.meta.id s.meta.epoch key m.seq r.status.ts = subst (λ n. QueryMissed history s.meta.id n key m.seq r.status.ts) epochs m.missed in
          let reached_last : m.seq ≤ l.1.0 = omega (arith, v_low, v_seq) in
          let f2 : Fails head history s = record {
            w = (key, l.1.0);
            value = l.1.1;
            wrote = λ u there whose.
                let one : u ≡ t = one_known head history run s.meta.id u t there mine (whose ∙ sym named) in
                subst (λ (y : Txn). HasPut y s.meta.epoch l.1.0 key l.1.1) (sym one) (record { low = omega (arith, same); written = λ now. (wl.0, wl.1, wl.3, wl.2, wl.4) });
            unproven = λ seq p reached proven. elim (at-most p s.ts) [
              | inr above ↦ above
              | inl below ↦
                  let none : decision (home_of head t.id history) ≡ None = ap (λ i. decision (home_of head i history)) named ∙ undecided in
                  let hold = own_hold head history run t own key in
                  let r2 = hold.written none seq p (subst (λ n. WasProven history t.id n key seq p) (sym same) (subst (λ i. WasProven history i s.meta.epoch key seq p) (sym named) proven)) in
                  let i = r2.0 in
                  let stands = r2.2 in
                  let has : seq ≤ last_seq i = stands.has in
                  let among : Each (λ y. Contains (writes_on key t.writes) y) i.history = (hold.among i r2.1).each stands.epoch_is in
                  let greatest : last_seq i ≤ l.1.0 =
                  last_low l.1.0 0 i.history (omega arith)
                  (each-weaker (λ y. Contains (writes_on key t.writes) y) (λ (y : Laid). y.0 ≤ l.1.0) (λ y there. each-contains (λ (z : Laid). z.0 ≤ l.1.0) (writes_on key t.writes) y all_low there) i.history among) in
                  let time : i.ts ≤ max p (time_of (home_of head t.id history)) = stands.low (omega (arith, greatest, reached)) in
                  let home_time : time_of (home_of head t.id history) ≡ r.status.ts = ap (λ j. time_of (home_of head j history)) named ∙ ap time_of home in
                  let there : IsThere head history (record s { ts = r.status.ts }) (key, m.seq) =
                  is_there (record s { ts = r.status.ts }) (key, m.seq) head history
                  (i, ap (λ j. own_intent head j key history) (sym named) ∙ r2.1, record { epoch_is = stands.epoch_is ∙ same; has = omega (arith, has, reached, v_low, v_seq); low = omega (arith, time, home_time, below, ts_low) }) in
                  let gone = missed_stays s.meta.id s.meta.epoch m.seq r.status.ts key head history run missed in
                  let both : true ≡ false = sym there ∙ gone.absent in absurd cc
            ];
            stays = SinceMissed m.seq r.status.ts reached_last ts_low missed;
          } in
          (f2, m.seq, r.status.ts, reached_last, ts_low, missed)

      missed-fails : Fails head (history ++ e ∷ []) s
      unfolding recovery-misses
      missed-fails = let (f2, seq, at, before, high, missed) = recovery-misses in since-missed f2 seq at before high missed

    -- the entry changes the record
    record-changes : ((epoch : ℕ) → decision (home_of head s.meta.id (history ++ e ∷ [])) ≡ Some (status_of standings.Committed epoch s.ts) → ⊥)
        → ChangesPlace head history e s.meta.id (home_of head s.meta.id history) (home_of head s.meta.id (history ++ e ∷ [])) → Fails head (history ++ e ∷ []) s
    record-changes not_there c =
        let now = history ++ e ∷ [] in
        let request = c.ev.request in
        let q = after (Kept r) (place_change request (Kept r)) in
        let later : home_of head s.meta.id now ≡ q = c.changed ∙ ap (λ p. after p (place_change request p)) home in
        let still : (x : Record) → q ≡ Kept x → x.status.standing ≡ standings.Staging → s.meta.epoch ≤ x.status.epoch → s.ts ≤ x.status.ts → Fails head now s =
        λ x is x_staging x_epoch x_ts. fails-as f (WhileStaged x (later ∙ is) x_staging x_epoch x_ts (refuted_more history e s f.w refuted)) in
        let above : (epoch at : ℕ) → decision q ≡ Some (status_of standings.Committed epoch at) → s.ts ≤ at → Fails head now s =
        λ epoch at decided low.
        let is = ap decision later ∙ decided in
        commits-above c epoch at is (strictly at low (λ same. not_there epoch (is ∙ ap (λ n. Some (status_of standings.Committed epoch n)) same))) in
        elim (leaves_by r staging request) [
          | Stages st ↦
              let status = st.same_status in
              let epochs : st.now.status.epoch ≡ r.status.epoch = ap (λ (x : Status). x.epoch) status in
              let times : st.now.status.ts ≡ r.status.ts = ap (λ (x : Status). x.ts) status in
              still st.now st.kept (ap (λ (x : Status). x.standing) status ∙ staging) (omega (arith, epochs, epoch_low)) (omega (arith, times, ts_low))
          | ByCommit meta ts locks asks epoch_reached ts_reached decided ↦ above meta.epoch ts decided (omega (arith, ts_low, ts_reached))
          | ByAbort meta why locks asks ↦
              let whose : meta.id ≡ s.meta.id = let both : Some meta.id ≡ Some s.meta.id = sym (ap subject asks) ∙ c.about in cc both in
              absurd (before-g.unaborted c.ev.send c.ev.listed c.number c.ev.range meta why locks (c.ev.sends ∙ ap (events.Send c.number c.ev.range) asks) whose)
          | ByStage x asks epoch_reached ts_reached differ ↦
              let m = stage-makes r x staging epoch_reached ts_reached differ in
              let made : q ≡ Kept m.0 = ap (λ y. after (Kept r) (place_change y (Kept r))) asks ∙ m.1 in
              let status = m.2 in
              let epochs : m.0.status.epoch ≡ x.meta.epoch = ap (λ (y : Status). y.epoch) status in
              let times : m.0.status.ts ≡ x.ts = ap (λ (y : Status). y.ts) status in
              still m.0 made (ap (λ (y : Status). y.standing) status) (omega (arith, epochs, epoch_low, epoch_reached)) (omega (arith, times, ts_low, ts_reached))
          | ByFound id anchor asks decided ↦ above r.status.epoch r.status.ts decided ts_low
          | ByMissing id anchor key by asks decided ↦
              let whose : id ≡ s.meta.id = let both : Some id ≡ Some s.meta.id = sym (ap subject asks) ∙ c.about in cc both in
              missed-fails c anchor key by (asks ∙ ap (λ i. requests.Recover i r.status.epoch r.status.ts anchor (findings.Missing key by)) whose)
        ]

  -- it goes on to fail, unless the transaction is decided committed at its timestamp
  pub fails_on : Fails head history s → ((epoch : ℕ) → decision (home_of head s.meta.id (history ++ e ∷ [])) ≡ Some (status_of standings.Committed epoch s.ts) → ⊥) → Fails head (history ++ e ∷ []) s
  fails_on f not_there =
      elim f.stays [
        | WhileStaged r home staging epoch_low ts_low refuted ↦ elim (home_over head history run e may s.meta.id) [
          | inl same ↦ fails-as f (WhileStaged r (same ∙ home) staging epoch_low ts_low (refuted_more history e s f.w refuted))
          | inr c ↦ record-changes f r home staging epoch_low ts_low refuted not_there c
        ]
        | WhereCommitted epoch at decided above off ↦ where-committed f epoch at decided above off
        | SinceMissed seq at before high missed ↦ since-missed f seq at before high missed
      ]
