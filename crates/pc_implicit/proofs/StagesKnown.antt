-- What a session knows of its stages and commits stays known; and what each one that it sends asks of those before.
use Rattle.std.proofs.Common.{◌≡◌, ℕ, ◌⊎◌, inl, inr, List, [], ◌∷◌, ◌++◌, Option, None, Some, Any, Contains, refl, sym, ap, subst, ◌∙◌}
use Rattle.std.proofs.lemmas.List.{append-nil}
use Rattle.std.proofs.lemmas.List.Elements.{All-contains, Contains-append_cases}
use Rattle.std.specs.Option.{option_to_list}
use Rattle.pc_base.specs.declared.actor.ActorId.{ActorId}
use Rattle.pc_base.specs.declared.entry.Entry.{Entry}
use Rattle.pc_base.specs.declared.transaction.TxnId.{TxnId}
use Rattle.pc_base.specs.Transaction.{same_txn}
use Rattle.pc_history.specs.History.{MayFollow}
use Rattle.pc_history.specs.Own.{named_in}
use Rattle.pc_implicit.proofs.Commits.{act_of}
use Rattle.pc_implicit.proofs.Doing.{Does, same_or_not}
use Rattle.pc_lists.proofs.Anywhere.{any_kept, any_weaker}
use Rattle.pc_lists.proofs.Lists.{contains_cons, contains_nil}
use Rattle.pc_lists.proofs.Same.{same_txn-self}
use Rattle.pc_proto.specs.declared.event.Event.{Event}
use Rattle.pc_proto.specs.declared.event.Event.TheVariants as events
use Rattle.pc_proto.specs.declared.request.Request.{Request}
use Rattle.pc_proto.specs.declared.request.Request.TheVariants as requests
use Rattle.pc_world.proofs.Knowing.{known_other, known_same}
use Rattle.pc_world.specs.After.{known_at}
use Rattle.pc_world.specs.Known.{Known}
use Rattle.pc_world.specs.Known.Traffic.{Heard, Sent, heard_by, sent_by}
use Rattle.pc_world.specs.Local.{Head}
use Rattle.pc_world.specs.Run.{protocol}
use Rattle.pc_world.specs.Send.Commit.{MaySendCommit}
use Rattle.pc_world.specs.Send.Stage.{IsPassed, MaySendNewStage, MaySendStage}
use Rattle.pc_world.specs.StageFate.{EachCommit, EachStage, IsDead, IsDeadByWrite, IsLate, IsLateByRecord, IsUnsettledAfter, OnCommit, OnStage, RefutesRecord, RefutesWrite, Refuses, SentCommit, SentStage, WasCommitRefused, commit_request, stage_request}

-- This request is among the messages.
abbrev pub HasSent : List Sent → Request → Type 0
HasSent sent request = Any (λ m. m.request ≡ request) sent

-- nobody has sent a request before its first entry
pub none_sent : (request : Request) → HasSent [] request → ⊥
none_sent request (n, m, inside, at, is) = contains_nil m (n, inside, at)

-- ---- what was heard

module _ (heard more : List Heard) where
  pub late_more : (s : SentStage) → IsLate heard s → IsLate (heard ++ more) s
  late_more s h = any_kept (λ g. RefutesWrite s g ⊎ RefutesRecord s g) heard more h

  pub late_by_record_more : (s : SentStage) → IsLateByRecord heard s → IsLateByRecord (heard ++ more) s
  late_by_record_more s h = any_kept (RefutesRecord s) heard more h

  pub dead_more : (s : SentStage) → IsDead heard s → IsDead (heard ++ more) s
  dead_more s h =
      elim h [
        | inl record_passed ↦ inl (late_by_record_more s record_passed)
        | inr refuted ↦
            inr (any_weaker (IsDeadByWrite heard s) (IsDeadByWrite (heard ++ more) s)
            (λ g d. record { refuted = d.refuted; undecided = any_kept (IsUnsettledAfter s g) heard more d.undecided })
            (heard ++ more) (any_kept (IsDeadByWrite heard s) heard more refuted))
      ]

  pub passed_more : (ts : ℕ) (s : SentStage) → IsPassed heard ts s → IsPassed (heard ++ more) ts s
  passed_more ts s h = elim h [ inl late ↦ inl (late_more s late.0, late.1) | inr past ↦ inr (late_by_record_more s past) ]

  pub refused_more : (c : SentCommit) → WasCommitRefused heard c → WasCommitRefused (heard ++ more) c
  refused_more c h = any_kept (Refuses c) heard more h

-- a stage by whose own reply its record went another way is late
pub late_by_record : (heard : List Heard) (s : SentStage) → IsLateByRecord heard s → IsLate heard s
late_by_record heard s h = any_weaker (RefutesRecord s) (λ g. RefutesWrite s g ⊎ RefutesRecord s g) (λ g past. inr past) heard h

-- a dead stage is late
pub dead_is_late : (heard : List Heard) (s : SentStage) → IsDead heard s → IsLate heard s
dead_is_late heard s h =
    elim h [
      | inl past ↦ late_by_record heard s past
      | inr refuted ↦ any_weaker (IsDeadByWrite heard s) (λ g. RefutesWrite s g ⊎ RefutesRecord s g) (λ g d. inl d.refuted) heard refuted
    ]

-- a passed stage is late
pub passed_is_late : (heard : List Heard) (ts : ℕ) (s : SentStage) → IsPassed heard ts s → IsLate heard s
passed_is_late heard ts s h = elim h [ inl late ↦ late.0 | inr past ↦ late_by_record heard s past ]

-- ---- what was sent

pub stage_of : (id : TxnId) (P : SentStage → Type 0) (sent : List Sent) → EachStage id sent P → (s : SentStage) → s.meta.id ≡ id → HasSent sent (stage_request s) → P s
stage_of id P sent each s whose (n, m, inside, at, is) =
    let on : OnStage id P m.request = All-contains (λ (x : Sent). OnStage id P x.request) sent m each (n, inside, at) in
    let own : OnStage id P (stage_request s) = subst (OnStage id P) is on in
    own (ap (λ i. same_txn i id) whose ∙ same_txn-self id)

pub commit_of : (id : TxnId) (P : SentCommit → Type 0) (sent : List Sent) → EachCommit id sent P → (c : SentCommit) → c.meta.id ≡ id → HasSent sent (commit_request c) → P c
commit_of id P sent each c whose (n, m, inside, at, is) =
    let on : OnCommit id P m.request = All-contains (λ (x : Sent). OnCommit id P x.request) sent m each (n, inside, at) in
    let own : OnCommit id P (commit_request c) = subst (OnCommit id P) is on in
    own (ap (λ i. same_txn i id) whose ∙ same_txn-self id)

-- The stage that a request sends, if it sends one.
staged_by : Request → Option SentStage
staged_by (requests.Stage meta ts now writes locks) = Some (record { meta = meta; ts = ts; now = now; writes = writes; locks = locks })
staged_by _ = None

-- one message sends one stage
pub one_stage : (number range other to : ℕ) (s x : SentStage) (event : Event) → event ≡ events.Send number range (stage_request s) → event ≡ events.Send other to (stage_request x) → s ≡ x
unfolding staged_by
one_stage number range other to s x event is also =
    let both : events.Send number range (stage_request s) ≡ events.Send other to (stage_request x) = sym is ∙ also in
    let same : stage_request s ≡ stage_request x = cc both in
    let stages : Some s ≡ Some x = ap staged_by same in
    cc stages

module _ (head : Head) (history : List (Entry Event)) (e : Entry Event) where
  -- what an actor heard it goes on to have heard
  pub heard_goes_on : (actor : ActorId) → (more : List Heard) × ((known_at head actor (history ++ e ∷ [])).heard ≡ (known_at head actor history).heard ++ more)
  heard_goes_on actor =
      let k = known_at head actor history in
      elim (same_or_not e.actor actor) [
        | inl same ↦
            (option_to_list (heard_by e.event (named_in (protocol head) history e.event) k.sent), ap (λ (l : Known). l.heard) (known_same head actor history e same))
        | inr differ ↦ ([], ap (λ (l : Known). l.heard) (known_other head actor history e differ) ∙ sym (append-nil k.heard))
      ]

  -- The entry sends this request of the actor.
  pub record SendsNow (actor : ActorId) (request : Request) : Type 0 where
    pub whose : e.actor ≡ actor
    pub number : ℕ
    pub range : ℕ
    pub sends : e.event ≡ events.Send number range request

  sent-now : (actor : ActorId) (request : Request) (sent : List Sent) (event : Event) → e.actor ≡ actor → e.event ≡ event → HasSent (sent ++ sent_by event) request → HasSent sent request ⊎ SendsNow actor request
  sent-now actor request sent event whose is (n, m, inside, at, asks) =
      elim (Contains-append_cases sent (sent_by event) m (n, inside, at)) [
        | inl before ↦ inl (before.0, m, before.1, before.2, asks)
        | inr now ↦ inr (by event is now)
      ]
    where
      by : (event : Event) → e.event ≡ event → Contains (sent_by event) m → SendsNow actor request
      by (events.Send number range own) is now =
          elim (contains_cons (record { number = number; range = range; request = own }) [] m now) [
            | inl same ↦ record { whose = whose; number = number; range = range; sends = is ∙ ap (events.Send number range) (ap (λ (x : Sent). x.request) same ∙ asks) }
            | inr later ↦ absurd (contains_nil m later)
          ]
      by event is now = absurd (contains_nil m now)

  -- what it has sent it had sent, or sends with this entry
  pub sent_cases : (actor : ActorId) (request : Request) → HasSent (known_at head actor (history ++ e ∷ [])).sent request → HasSent (known_at head actor history).sent request ⊎ SendsNow actor request
  sent_cases actor request h =
      let k = known_at head actor history in
      elim (same_or_not e.actor actor) [
        | inl same ↦ sent-now actor request k.sent e.event same refl (subst (λ (l : Known). HasSent l.sent request) (known_same head actor history e same) h)
        | inr differ ↦ inl (subst (λ (l : Known). HasSent l.sent request) (known_other head actor history e differ) h)
      ]

  module _ (may : MayFollow (protocol head) history e) where
    -- a stage that is sent was sent before, or may be sent for the first time
    pub stage_sent : (actor : ActorId) (s : SentStage) → SendsNow actor (stage_request s) → HasSent (known_at head actor history).sent (stage_request s) ⊎ MaySendNewStage (known_at head actor history) s
    stage_sent actor s now =
        let act : Does head actor (known_at head actor history) (events.Send now.number now.range (stage_request s)) =
        subst (Does head actor (known_at head actor history)) now.sends (subst (λ a. Does head a (known_at head a history) e.event) now.whose (act_of head history e may)) in
        let row : MaySendStage (known_at head actor history) s = act.row in
        elim row [ inl new ↦ inr new | inr again ↦ inl again.before ]

    pub commit_sent : (actor : ActorId) (c : SentCommit) → SendsNow actor (commit_request c) → MaySendCommit (known_at head actor history) c
    commit_sent actor c now =
        let act : Does head actor (known_at head actor history) (events.Send now.number now.range (commit_request c)) =
        subst (Does head actor (known_at head actor history)) now.sends (subst (λ a. Does head a (known_at head a history) e.event) now.whose (act_of head history e may)) in
        act.row
