-- A record that a commit finds, and that is not final, is past the commit's timestamp where the transaction has left no epoch since: no record is in a later epoch than
-- its session has reached. So is one that a stage finds, or it stages so.
use Rattle.std.proofs.Common.{◌≡◌, ℕ, ◌<◌, ◌≤◌, true, false, not, ◌==◌, inl, inr, List, [], ◌∷◌, ◌++◌, Some, None, Contains, refl, sym, ap, ◌∙◌, subst, arith}
use Rattle.std.proofs.lemmas.Bool.{and_from, eq-eqb}
use Rattle.std.proofs.lemmas.List.{append-nil, append_assoc}
use Rattle.std.specs.Prelude.{⊤}
use Rattle.pc_base.specs.declared.actor.ActorId.TheVariants as actors
use Rattle.pc_base.specs.declared.entry.Entry.{Entry}
use Rattle.pc_base.specs.declared.transaction.TxnId.{TxnId}
use Rattle.pc_implicit.proofs.Anchored.{anchor_stays}
use Rattle.pc_implicit.proofs.EpochRows.{PlaceReached, place_reached}
use Rattle.pc_implicit.proofs.Epochs.{HasReached, epochs_are_reached, open_records_are_past, other_records_are_past}
use Rattle.pc_implicit.proofs.FinalMarks.{marks_final}
use Rattle.pc_implicit.proofs.Turns.{Restarted, Turn, WentOn, Wrote, comes_from}
use Rattle.pc_implicit.specs.Epochs.{IsPastWhereElsewhere, IsPastWhereOpen}
use Rattle.pc_implicit.specs.Writes.{txns_of}
use Rattle.pc_proto.specs.declared.event.Event.{Event}
use Rattle.pc_proto.specs.declared.meta.TxnMeta.{TxnMeta}
use Rattle.pc_proto.specs.declared.record.Record.{Record}
use Rattle.pc_proto.specs.declared.record.Standing.{Standing}
use Rattle.pc_proto.specs.declared.record.Standing.TheVariants as standings
use Rattle.pc_proto.specs.declared.record.Status.{Status}
use Rattle.pc_proto.specs.declared.reply.Reply.{Reply}
use Rattle.pc_proto.specs.declared.reply.Reply.TheVariants as replies
use Rattle.pc_proto.specs.declared.request.Request.TheVariants as requests
use Rattle.pc_proto.specs.declared.view.View.{View}
use Rattle.pc_proto.specs.declared.view.View.TheVariants as views
use Rattle.pc_proto.specs.Place.{Place, Change, Nothing, Kept, Marked, Stay, Become, Finish, after, is_final, status_view, view_of}
use Rattle.pc_proto.specs.RecordRows.{unless_decided}
use Rattle.pc_proto.specs.RecordRows.Commit.{commit}
use Rattle.pc_proto.specs.RecordRows.Stage.{stage}
use Rattle.pc_proto.specs.Replies.{is_undecided_status, status_ts}
use Rattle.pc_proto.specs.Table.{place_of}
use Rattle.pc_proto.specs.Views.{undecided_ts}
use Rattle.pc_world.proofs.Prefixes.{run_front, run_may}
use Rattle.pc_world.specs.After.{known_at, state_at}
use Rattle.pc_world.specs.Committed.{anchor_in}
use Rattle.pc_world.specs.Evaluation.{reply}
use Rattle.pc_world.specs.Known.{Known}
use Rattle.pc_world.specs.Known.Transactions.{Txn}
use Rattle.pc_world.specs.Local.{Head}
use Rattle.pc_world.specs.Run.{IsRun}
use Rattle.pc_world.specs.StageFate.{SentStage, is_past_stage, stage_request}

rises : (history : List (Entry Event)) (e : Entry Event) (k : Known) (t u : Txn) → Turn history e k t u → t.epoch ≤ u.epoch
rises history e k t u (WentOn same alike) = omega (arith, same)
rises history e k t u (Wrote w first same writes) = omega (arith, same)
rises history e k t u (Restarted r next writes) = omega (arith, next)

-- What a session knew then of a transaction that it knows now.
record KnewThen (head : Head) (history : List (Entry Event)) (id : TxnId) (epoch : ℕ) : Type 0 where
  t : Txn
  there : Contains (txns_of head id history) t
  same : t.id ≡ id
  low : t.epoch ≤ epoch

-- a transaction that has an anchor is known, in no later epoch than it has reached since
knew_then : (head : Head) (id : TxnId) (anchor : List ℕ) (u : Txn) (back front : List (Entry Event)) → IsRun head (front ++ back) → anchor_in id front ≡ Some anchor → Contains (txns_of head id (front ++ back)) u → u.id ≡ id → KnewThen head front id u.epoch
knew_then head id anchor u [] front run anchored there same = record { t = u; there = subst (λ h. Contains (txns_of head id h) u) (append-nil front) there; same = same; low = omega arith }
knew_then head id anchor u (e ∷ back) front run anchored there same =
    let whole : (front ++ e ∷ []) ++ back ≡ front ++ e ∷ back = append_assoc front (e ∷ []) back in
    let later : KnewThen head (front ++ e ∷ []) id u.epoch =
    knew_then head id anchor u back (front ++ e ∷ []) (subst (IsRun head) (sym whole) run) (anchor_stays id front e anchor anchored) (subst (λ h. Contains (txns_of head id h) u) (sym whole) there) same in
    elim (comes_from head front (run_front head front (e ∷ back) run) e (run_may head front e back run) (actors.Session id.session) later.t later.there) [
      | inl b ↦ let both : None ≡ Some anchor = sym b.new.anchor ∙ ap (λ i. anchor_in i front) later.same ∙ anchored in absurd cc
      | inr c ↦
          let more : c.t.epoch ≤ later.t.epoch = rises front e (known_at head (actors.Session id.session) front) c.t later.t c.turn in
          let low = later.low in
          record { t = c.t; there = c.there; same = sym c.same ∙ later.same; low = omega (arith, more, low) }
    ]

final_decided : (standing : Standing) (epoch ts : ℕ) (writes : List (List ℕ × ℕ)) (locks : List (List ℕ)) → is_final standing ≡ true → is_undecided_status (replies.Status (status_view standing epoch ts writes locks)) ≡ false
final_decided standings.Pending epoch ts writes locks final = absurd cc
final_decided standings.Staging epoch ts writes locks final = absurd cc
final_decided standings.Committed epoch ts writes locks final = refl
final_decided (standings.Aborted why) epoch ts writes locks final = refl

-- a commit leaves undecided only what is a record
kept_open : (meta : TxnMeta) (ts : ℕ) (locks : List (List ℕ)) (p : Place) → ((s : Status) → p ≡ Marked s → is_final s.standing ≡ true)
    → is_undecided_status (replies.Status (view_of (after p (unless_decided p (commit meta ts locks p))))) ≡ true → (r : Record) × (p ≡ Kept r)
kept_open meta ts locks Nothing marks undecided = absurd cc
kept_open meta ts locks (Kept r) marks undecided = (r, refl)
kept_open meta ts locks (Marked s) marks undecided = let e : false ≡ true = sym (final_decided s.standing s.epoch s.ts [] [] (marks s refl)) ∙ undecided in absurd cc

-- The reply does not say that there is no record.
abbrev ShowsSome : Reply → Type 0
ShowsSome (replies.Status views.Nothing) = ⊥
ShowsSome told = ⊤

status_shows : (standing : Standing) (epoch ts : ℕ) (writes : List (List ℕ × ℕ)) (locks : List (List ℕ)) → ShowsSome (replies.Status (status_view standing epoch ts writes locks))
status_shows standings.Pending epoch ts writes locks = tt
status_shows standings.Staging epoch ts writes locks = tt
status_shows standings.Committed epoch ts writes locks = tt
status_shows (standings.Aborted why) epoch ts writes locks = tt

-- a record stays shown
kept_shows : (r : Record) (c : Change) → ShowsSome (replies.Status (view_of (after (Kept r) c)))
kept_shows r Stay = status_shows r.status.standing r.status.epoch r.status.ts r.writes r.locks
kept_shows r (Become made) = status_shows made.status.standing made.status.epoch made.status.ts made.writes made.locks
kept_shows r (Finish s) = status_shows s.standing s.epoch s.ts [] []

past_by : (ts : ℕ) (told : Reply) → ShowsSome told → IsPastWhereOpen ts told → is_undecided_status told ≡ true → ts < status_ts told
past_by ts (replies.Status (views.Pending epoch at)) some past undecided = past
past_by ts (replies.Status (views.Staging epoch at writes)) some past undecided = past
past_by ts (replies.Status (views.Committed epoch at locks)) some past undecided = absurd cc
past_by ts (replies.Status (views.Aborted epoch why locks)) some past undecided = absurd cc
past_by ts (replies.Status views.Nothing) some past undecided = absurd some
past_by ts told some past undecided = absurd cc

module _ (head : Head) (front back : List (Entry Event)) (run : IsRun head (front ++ back)) (range : ℕ) (meta : TxnMeta) (ts : ℕ) (locks : List (List ℕ)) (t : Txn) (there : Contains (txns_of head meta.id (front ++ back)) t) (whose : t.id ≡ meta.id) (low : t.epoch ≤ meta.epoch) where
  run_then : IsRun head front
  run_then = run_front head front back run

  abbrev told : Reply
  told = reply (requests.Commit meta ts locks) (state_at head range front)

  abbrev place : Place
  place = place_of meta.id (state_at head range front).table

  by_record : (r : Record) → place ≡ Kept r → is_undecided_status told ≡ true → ts < status_ts told
  by_record r is undecided =
      let reached : PlaceReached (HasReached head front) meta.id (Kept r) =
      subst (PlaceReached (HasReached head front) meta.id) is (place_reached (HasReached head front) meta.id (state_at head range front).table ((epochs_are_reached head front run_then).states range).records) in
      let knew : KnewThen head front meta.id t.epoch = knew_then head meta.id reached.1.anchor t back front run reached.1.anchored there whose in
      let before = knew.low in
      let some : ShowsSome told = subst (λ p. ShowsSome (replies.Status (view_of (after p (unless_decided p (commit meta ts locks p)))))) (sym is) (kept_shows r (unless_decided (Kept r) (commit meta ts locks (Kept r)))) in
      past_by ts told some (open_records_are_past head front range meta ts locks knew.t run_then knew.there knew.same (omega (arith, before, low))) undecided

  -- a record that a commit left undecided then is past its timestamp
  pub past_then : is_undecided_status (reply (requests.Commit meta ts locks) (state_at head range front)) ≡ true → ts < status_ts (reply (requests.Commit meta ts locks) (state_at head range front))
  past_then undecided =
      let r = kept_open meta ts locks (place_of meta.id (state_at head range front).table) (λ s is. marks_final head range meta.id front s is) undecided in
      by_record r.0 r.1 undecided

-- ---- a stage

-- what is final is not past it
pub final_passes : (s : SentStage) (standing : Standing) (epoch ts : ℕ) (writes : List (List ℕ × ℕ)) (locks : List (List ℕ)) → is_final standing ≡ true → is_past_stage s (status_view standing epoch ts writes locks) ≡ false
final_passes s standings.Pending epoch ts writes locks final = absurd cc
final_passes s standings.Staging epoch ts writes locks final = absurd cc
final_passes s standings.Committed epoch ts writes locks final = refl
final_passes s (standings.Aborted why) epoch ts writes locks final = refl

-- what stages so is not past
pub staging_passes : (s : SentStage) (epoch ts : ℕ) (writes : List (List ℕ × ℕ)) → epoch ≡ s.meta.epoch → ts ≡ s.ts → is_past_stage s (views.Staging epoch ts writes) ≡ false
staging_passes s epoch ts writes one two = ap not (and_from (epoch == s.meta.epoch) (ts == s.ts) (eq-eqb epoch s.meta.epoch one) (eq-eqb ts s.ts two))

-- a stage leaves only a record going another way
pub kept_elsewhere : (s : SentStage) (p : Place) → ((m : Status) → p ≡ Marked m → is_final m.standing ≡ true)
    → is_past_stage s (view_of (after p (unless_decided p (stage s.meta s.ts s.now s.writes s.locks p)))) ≡ true → (r : Record) × (p ≡ Kept r)
kept_elsewhere s Nothing marks past = let e = staging_passes s s.meta.epoch s.ts s.writes refl refl in absurd cc
kept_elsewhere s (Kept r) marks past = (r, refl)
kept_elsewhere s (Marked m) marks past = let e : false ≡ true = sym (final_passes s m.standing m.epoch m.ts [] [] (marks m refl)) ∙ past in absurd cc

past_stage_by : (s : SentStage) (view : View) → ShowsSome (replies.Status view) → IsPastWhereElsewhere s.meta.epoch s.ts (replies.Status view) → is_past_stage s view ≡ true → s.ts < undecided_ts view
past_stage_by s (views.Pending epoch at) some past elsewhere = past
past_stage_by s (views.Staging epoch at writes) some (inl same) elsewhere = let e = staging_passes s epoch at writes same.0 same.1 in absurd cc
past_stage_by s (views.Staging epoch at writes) some (inr past) elsewhere = past
past_stage_by s (views.Committed epoch at locks) some past elsewhere = absurd cc
past_stage_by s (views.Aborted epoch why locks) some past elsewhere = absurd cc
past_stage_by s views.Nothing some past elsewhere = absurd some

module _ (head : Head) (front back : List (Entry Event)) (run : IsRun head (front ++ back)) (range : ℕ) (s : SentStage) (t : Txn) (there : Contains (txns_of head s.meta.id (front ++ back)) t) (whose : t.id ≡ s.meta.id) (low : t.epoch ≤ s.meta.epoch) where
  front_run : IsRun head front
  front_run = run_front head front back run

  abbrev home : Place
  home = place_of s.meta.id (state_at head range front).table

  -- What the stage was told then.
  abbrev view_then : View
  view_then = view_of (after home (unless_decided home (stage s.meta s.ts s.now s.writes s.locks home)))

  stage_by_record : (r : Record) → home ≡ Kept r → is_past_stage s view_then ≡ true → s.ts < undecided_ts view_then
  stage_by_record r is past =
      let reached : PlaceReached (HasReached head front) s.meta.id (Kept r) =
      subst (PlaceReached (HasReached head front) s.meta.id) is (place_reached (HasReached head front) s.meta.id (state_at head range front).table ((epochs_are_reached head front front_run).states range).records) in
      let knew : KnewThen head front s.meta.id t.epoch = knew_then head s.meta.id reached.1.anchor t back front run reached.1.anchored there whose in
      let before = knew.low in
      let some : ShowsSome (replies.Status view_then) =
      subst (λ p. ShowsSome (replies.Status (view_of (after p (unless_decided p (stage s.meta s.ts s.now s.writes s.locks p)))))) (sym is) (kept_shows r (unless_decided (Kept r) (stage s.meta s.ts s.now s.writes s.locks (Kept r)))) in
      past_stage_by s view_then some (other_records_are_past head front range s.meta s.ts s.now s.writes s.locks knew.t front_run knew.there knew.same (omega (arith, before, low))) past

  -- a record that went another way than a stage that found it is past the stage's timestamp
  pub past_stage_then : (view : View) → reply (stage_request s) (state_at head range front) ≡ replies.Status view → is_past_stage s view ≡ true → s.ts < undecided_ts view
  past_stage_then view told past =
      let same : view_then ≡ view = same_status view_then view told in
      let elsewhere : is_past_stage s view_then ≡ true = ap (is_past_stage s) same ∙ past in
      let r = kept_elsewhere s home (λ m is. marks_final head range s.meta.id front m is) elsewhere in
      subst (λ v. s.ts < undecided_ts v) same (stage_by_record r.0 r.1 elsewhere)
    where
      same_status : (one other : View) → replies.Status one ≡ replies.Status other → one ≡ other
      same_status one other e = cc
