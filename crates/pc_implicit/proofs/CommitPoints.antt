-- One entry makes at most one transaction committed.
use Rattle.std.proofs.Common.{◌≡◌, ℕ, ◌≤◌, ◌+◌, max, Bool, true, false, inl, inr, List, [], ◌∷◌, ◌++◌, Option, None, Some, Contains, refl, sym, ap, subst, ◌∙◌, arith}
use Rattle.std.proofs.lemmas.Bool.{and_cases}
use Rattle.std.proofs.lemmas.List.{append_assoc}
use Rattle.std.proofs.lemmas.List.Elements.{Contains-append_left, Contains-push}
use Rattle.std.specs.List.{list_all}
use Rattle.std.specs.Option.{option_or}
use Rattle.pc_base.specs.declared.entry.Entry.{Entry}
use Rattle.pc_base.specs.declared.transaction.TxnId.{TxnId}
use Rattle.pc_history.proofs.Histories.{fine-one}
use Rattle.pc_history.specs.History.{MayFollow}
use Rattle.pc_implicit.proofs.Because.{because, kept_commits}
use Rattle.pc_implicit.proofs.Firsts.{first_push}
use Rattle.pc_implicit.proofs.HomeOver.{ChangesPlace, home_over}
use Rattle.pc_implicit.proofs.Homes.{home_commits}
use Rattle.pc_implicit.proofs.OwnOver.{Decides, IsLaidOver, Lays, Moves, Stays, own_over}
use Rattle.pc_implicit.proofs.Points.{IsPoint, or-first, point_of, told-what}
use Rattle.pc_implicit.proofs.Presence.{HasListed, IsListedWrite, is_there, there_is}
use Rattle.pc_implicit.proofs.StageWords.{ByDecision, ByStaging, ByTelling, CommitsBy}
use Rattle.pc_implicit.proofs.StaysOrRefuted.{staging_open}
use Rattle.pc_implicit.proofs.Written.{one_send}
use Rattle.pc_implicit.specs.Decided.{decision}
use Rattle.pc_implicit.specs.Stages.{IsThere}
use Rattle.pc_implicit.specs.Writes.{home_of, own_intent}
use Rattle.pc_lists.proofs.Lists.{contains_head, contains_tail}
use Rattle.pc_proto.specs.declared.answer.Answer.TheVariants as answers
use Rattle.pc_proto.specs.declared.event.Event.{Event}
use Rattle.pc_proto.specs.declared.event.Event.TheVariants as events
use Rattle.pc_proto.specs.declared.record.Standing.TheVariants as standings
use Rattle.pc_proto.specs.declared.reply.Reply.{Reply}
use Rattle.pc_proto.specs.declared.request.Request.{Request}
use Rattle.pc_proto.specs.declared.request.Request.TheVariants as requests
use Rattle.pc_proto.specs.Place.{Kept}
use Rattle.pc_proto.specs.RecordRows.Reached.{status_of}
use Rattle.pc_proto.specs.Requests.{subject}
use Rattle.pc_world.proofs.Knowing.{run_push}
use Rattle.pc_world.proofs.Prefixes.{run_front, run_may}
use Rattle.pc_world.specs.Committed.{IsCommitted, anchor_in, commit_at, commit_point, commit_ts, committed_in, is_present, key_sent, told_at}
use Rattle.pc_world.specs.Local.{Head}
use Rattle.pc_world.specs.Run.{IsRun, protocol}
use Rattle.pc_world.specs.StageFate.{SentStage}

-- How an entry makes a transaction committed: it tells so; or it evaluates a request to its record, which is decided then or stages with
-- all writes present; or it evaluates the put of the last write that was missing.
pub data MadeBy (head : Head) (front : List (Entry Event)) (e : Entry Event) (id : TxnId) : Type 0 where
  ByTell : (ts : ℕ) → e.event ≡ events.Tell (answers.Committed id ts) → MadeBy head front e id
  ByRecord : (epoch ts : ℕ) → decision (home_of head id (front ++ e ∷ [])) ≡ Some (status_of standings.Committed epoch ts)
      → ChangesPlace head front e id (home_of head id front) (home_of head id (front ++ e ∷ [])) → MadeBy head front e id
  ByStage : (s : SentStage) → CommitsBy head (front ++ e ∷ []) s → s.meta.id ≡ id
      → ChangesPlace head front e id (home_of head id front) (home_of head id (front ++ e ∷ [])) → MadeBy head front e id
  ByPut : (s : SentStage) → CommitsBy head (front ++ e ∷ []) s → s.meta.id ≡ id → (w : List ℕ × ℕ) → Contains s.writes w
      → IsLaidOver front e s.meta.id w.0 (own_intent head s.meta.id w.0 front) (own_intent head s.meta.id w.0 (front ++ e ∷ [])) → MadeBy head front e id

-- The transaction of a request: of a put, or of one to its record.
abbrev pub txn_of : Request → Option TxnId
txn_of (requests.Put meta seq ts key value) = Some meta.id
txn_of request = subject request

-- The entry tells the transaction committed, or evaluates a request of it.
pub data IsMadeBy (history : List (Entry Event)) (e : Entry Event) (id : TxnId) : Type 0 where
  Tells : (ts : ℕ) → e.event ≡ events.Tell (answers.Committed id ts) → IsMadeBy history e id
  Evaluates : (number : ℕ) (reply : Reply) (send : Entry Event) (range : ℕ) (request : Request) → e.event ≡ events.Eval send.actor number reply
      → Contains history send → send.event ≡ events.Send number range request → txn_of request ≡ Some id → IsMadeBy history e id

-- what has a subject is no put
of-subject : (request : Request) (id : TxnId) → subject request ≡ Some id → txn_of request ≡ Some id
of-subject (requests.Put meta seq ts key value) id about = absurd cc
of-subject (requests.Get who epoch seq ts key) id about = about
of-subject (requests.Scan who epoch seq ts span) id about = about
of-subject (requests.Refresh who from to span) id about = about
of-subject (requests.Beat meta ts now) id about = about
of-subject (requests.Stage meta ts now writes locks) id about = about
of-subject (requests.Commit meta ts locks) id about = about
of-subject (requests.Abort meta why locks) id about = about
of-subject (requests.Push holder by level now goal) id about = about
of-subject (requests.Query who epoch seq ts key by) id about = about
of-subject (requests.Recover who epoch ts anchor finding) id about = about
of-subject (requests.Resolve who key fate) id about = about
of-subject (requests.Remove who anchor) id about = about
of-subject requests.Records id about = about

-- where not all pass, one does not
some-fails : {X : Type 0} (test : X → Bool) (xs : List X) → list_all test xs ≡ false → (x : X) × Contains xs x × (test x ≡ false)
some-fails test [] h = absurd cc
some-fails test (x ∷ xs) h =
    elim (and_cases (test x) (list_all test xs) h) [
      | inl here ↦ (x, contains_head x xs, here)
      | inr later ↦ let one = some-fails test xs later in (one.0, contains_tail x xs one.0 one.1, one.2)
    ]

module _ (head : Head) (front : List (Entry Event)) (e : Entry Event) (run : IsRun head front) (may : MayFollow (protocol head) front e) where
  -- a write of the stage that was absent is present after the entry: it evaluates a put of it
  put-lays : (s : SentStage) → CommitsBy head (front ++ e ∷ []) s → home_of head s.meta.id (front ++ e ∷ []) ≡ home_of head s.meta.id front → (w : List ℕ × ℕ) → Contains s.writes w → (IsThere head front s w → ⊥)
      → MadeBy head front e s.meta.id
  put-lays s by same w listed absent =
      let now = there_is s w head (front ++ e ∷ []) (by.present w listed) in
      let absent_own : HasListed s w (own_intent head s.meta.id w.0 front) → ⊥ = λ has. absent (is_there s w head front has) in
      elim (own_over head front run e may s.meta.id w.0) [
        | Stays still ↦ absurd (absent_own (now.0, sym still ∙ now.1, now.2))
        | Lays l ↦ ByPut s by refl w listed l
        | Moves i at own low eq ↦
            let one : record i { ts = max i.ts at } ≡ now.0 = let both : Some (record i { ts = max i.ts at }) ≡ Some now.0 = sym eq ∙ now.1 in cc both in
            let listed_as = subst (IsListedWrite s w) (sym one) now.2 in
            let under : max i.ts at ≤ s.ts = listed_as.low in
            absurd (absent_own (i, own, record { epoch_is = listed_as.epoch_is; has = listed_as.has; low = omega (arith, under) }))
        | Decides st decided ↦
            let undecided = (staging_open head (front ++ e ∷ []) s by.r by.home by.stages).undecided in
            let both : None ≡ Some st = sym undecided ∙ ap decision same ∙ decided in absurd cc
      ]

  -- what it takes for a staging record to commit its transaction after the entry, and not before
  staging-made : (s : SentStage) → CommitsBy head (front ++ e ∷ []) s → commit_ts head front s.meta.id ≡ None → MadeBy head front e s.meta.id
  staging-made s by none =
      elim (home_over head front run e may s.meta.id) [
        | inr c ↦ ByStage s by refl c
        | inl same ↦
            let r = by.r in
            let home : home_of head s.meta.id front ≡ Kept r = sym same ∙ by.home in
            cases same home (list_all (is_present head front s.meta.id r.status.epoch r.status.ts) r.writes) refl
      ]
    where
      there-as : (w : List ℕ × ℕ) → IsThere head front s w → is_present head front s.meta.id by.r.status.epoch by.r.status.ts w ≡ true
      there-as w there =
          ap (λ n. is_present head front s.meta.id n by.r.status.ts w) by.stages.epoch_is ∙ ap (λ t. is_present head front s.meta.id s.meta.epoch t w) by.stages.ts_is ∙ there

      cases : home_of head s.meta.id (front ++ e ∷ []) ≡ home_of head s.meta.id front → home_of head s.meta.id front ≡ Kept by.r → (b : Bool)
          → list_all (is_present head front s.meta.id by.r.status.epoch by.r.status.ts) by.r.writes ≡ b → MadeBy head front e s.meta.id
      cases same home true all =
          let is = kept_commits head front s.meta.id by.r home by.stages.staging all in
          let both : None ≡ Some by.r.status.ts = sym none ∙ is in absurd cc
      cases same home false all =
          let one = some-fails (is_present head front s.meta.id by.r.status.epoch by.r.status.ts) by.r.writes all in
          put-lays s by same one.0 (subst (λ ws. Contains ws one.0) by.stages.writes_are one.1) (λ there. let both : true ≡ false = sym (there-as one.0 there) ∙ one.2 in cc both)

  -- how the entry makes the transaction committed
  pub makes_now : (id : TxnId) (ts : ℕ) → commit_ts head front id ≡ None → IsCommitted head (front ++ e ∷ []) id ts → MadeBy head front e id
  makes_now id ts none is =
      elim (because head (front ++ e ∷ []) (run_push head front e run may) id ts is) [
        | ByDecision epoch decided ↦ elim (home_over head front run e may id) [
          | inr c ↦ ByRecord epoch ts decided c
          | inl same ↦ let both : None ≡ Some ts = sym none ∙ home_commits head id front epoch ts (ap decision (sym same) ∙ decided) in absurd cc
        ]
        | ByStaging s by whose at ↦
            subst (MadeBy head front e) whose (staging-made s by (ap (commit_ts head front) whose ∙ none))
        | ByTelling unanchored told ↦
            let before : anchor_in id front ≡ None = or-first (anchor_in id front) (key_sent id e.event) (sym (first_push (λ x. key_sent id x.event) front e) ∙ unanchored) in
            let untold : told_at id front ≡ None = sym (ap (commit_at head front id) before) ∙ none in
            ByTell ts (told-what id ts e.event (sym (first_push (λ x. committed_in id x.event) front e ∙ ap (λ o. option_or o (committed_in id e.event)) untold) ∙ told))
      ]

  by-change : (id : TxnId) → ChangesPlace head front e id (home_of head id front) (home_of head id (front ++ e ∷ [])) → IsMadeBy front e id
  by-change id c = Evaluates c.number c.told c.ev.send c.ev.range c.ev.request (c.is ∙ ap (λ a. events.Eval a c.number c.told) (sym c.ev.whose)) c.ev.listed c.ev.sends (of-subject c.ev.request id c.about)

  is-made : (id : TxnId) → MadeBy head front e id → IsMadeBy front e id
  is-made id (ByTell ts tells) = Tells ts tells
  is-made id (ByRecord epoch ts decided c) = by-change id c
  is-made id (ByStage s by whose c) = by-change id c
  is-made id (ByPut s by whose w listed l) =
      Evaluates l.number l.told l.send l.range (requests.Put l.meta l.seq l.asked w.0 l.value) l.evaluates l.listed l.sends (ap Some (l.whose ∙ whose))

module _ (head : Head) (history : List (Entry Event)) (run : IsRun head history) where
  made-one : (e : Entry Event) (id other : TxnId) → IsMadeBy history e id → IsMadeBy history e other → id ≡ other
  made-one e id other (Tells ts a) (Tells at b) = let both : events.Tell (answers.Committed id ts) ≡ events.Tell (answers.Committed other at) = sym a ∙ b in cc
  made-one e id other (Tells ts a) (Evaluates number reply send range request b listed sends is) =
      let both : events.Tell (answers.Committed id ts) ≡ events.Eval send.actor number reply = sym a ∙ b in absurd cc
  made-one e id other (Evaluates number reply send range request b listed sends is) (Tells ts a) =
      let both : events.Tell (answers.Committed other ts) ≡ events.Eval send.actor number reply = sym a ∙ b in absurd cc
  made-one e id other (Evaluates number reply send range request b listed sends is) (Evaluates number2 reply2 send2 range2 request2 b2 listed2 sends2 is2) =
      let both : events.Eval send.actor number reply ≡ events.Eval send2.actor number2 reply2 = sym b ∙ b2 in
      let actors_are : send.actor ≡ send2.actor = cc both in
      let numbers : number ≡ number2 = cc both in
      let one : send ≡ send2 =
      one_send head history run send send2 listed listed2 send.actor number refl (sym actors_are) range range2 request request2 sends (sends2 ∙ ap (λ n. events.Send n range2 request2) (sym numbers)) in
      let said : events.Send number range request ≡ events.Send number2 range2 request2 = sym sends ∙ ap (λ (x : Entry Event). x.event) one ∙ sends2 in
      let same : request ≡ request2 = cc said in
      let whose : Some id ≡ Some other = sym is ∙ ap txn_of same ∙ is2 in
      cc whose

  made-more : (front : List (Entry Event)) (e x : Entry Event) (back : List (Entry Event)) (id : TxnId) → front ++ x ∷ back ≡ history → IsMadeBy front e id → IsMadeBy history e id
  made-more front e x back id whole (Tells ts a) = Tells ts a
  made-more front e x back id whole (Evaluates number reply send range request b listed sends is) =
      Evaluates number reply send range request b (subst (λ h. Contains h send) whole (Contains-append_left front (x ∷ back) send listed)) sends is

  made-at : (id : TxnId) (n : ℕ) (p : IsPoint head history id n) → IsMadeBy history p.e id × Contains history p.e × (p.e.step + 1 ≡ n)
  made-at id n p =
      let split = subst (IsRun head) (sym p.whole) run in
      let may = run_may head p.front p.e p.back split in
      let before = run_front head p.front (p.e ∷ p.back) split in
      let joined : (p.front ++ p.e ∷ []) ++ p.back ≡ history = append_assoc p.front (p.e ∷ []) p.back ∙ p.whole in (
        made-more p.front p.e p.e p.back id p.whole (is-made head p.front p.e before may id (makes_now head p.front p.e before may id p.ts p.before p.now)),
        subst (λ h. Contains h p.e) joined (Contains-append_left (p.front ++ p.e ∷ []) p.back p.e (Contains-push p.front p.e)),
        omega (arith, may.step, p.at),
      )

-- two transactions with one commit point are one
pub commit_points_differ : (head : Head) (history : List (Entry Event)) (id other : TxnId) (ts later : ℕ) → IsRun head history
    → IsCommitted head history id ts → IsCommitted head history other later → commit_point head history id ≡ commit_point head history other → id ≡ other
commit_points_differ head history id other ts later run is also same =
    let p = point_of head id history ts is in
    let q = point_of head other history later also in
    let one = made-at head history run id (commit_point head history id) p in
    let two = made-at head history run other (commit_point head history other) q in
    let entry : p.e ≡ q.e = fine-one (protocol head) history p.e q.e run one.1 two.1 (omega (arith, one.2, two.2, same)) in
    made-one head history run q.e id other (subst (λ x. IsMadeBy history x id) entry one.0) two.0
