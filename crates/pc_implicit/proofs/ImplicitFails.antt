-- Why a staging at some timestamp does not commit its transaction there: a write of its epoch has no proof at or below that timestamp, and can
-- get none any more. Either the record stages still, there or later, and a query missed the write or it was written above; or it was decided
-- committed at a later timestamp, and the write stands above; or a query missed it there or later.
use Rattle.std.proofs.Common.{◌≡◌, ℕ, ◌<◌, ◌≤◌, true, false, inl, inr, List, [], ◌∷◌, ◌++◌, Option, None, Some, Contains, if◌then◌else◌, sym, ap, subst, ◌∙◌, arith}
use Rattle.std.proofs.lemmas.List.Elements.{Contains-append_left}
use Rattle.pc_base.specs.declared.actor.ActorId.{ActorId}
use Rattle.pc_base.specs.declared.actor.ActorId.TheVariants as actors
use Rattle.pc_base.specs.declared.entry.Entry.{Entry}
use Rattle.pc_history.specs.History.{MayFollow}
use Rattle.pc_implicit.proofs.CommittedElsewhere.{IsOff, at-most}
use Rattle.pc_implicit.proofs.Did.{moved_on, session_at}
use Rattle.pc_implicit.proofs.Moves.{Moves, Puts, Reads, Restarts, Stays}
use Rattle.pc_implicit.proofs.OwnStanding.{own_hold}
use Rattle.pc_implicit.proofs.Presence.{is_there, refuted_absent}
use Rattle.pc_implicit.proofs.ProofsNow.{HasProven, proven_now}
use Rattle.pc_implicit.proofs.PutsSent.{HasPut, has-turn}
use Rattle.pc_implicit.proofs.StagesLast.{anchored-so, stages_last}
use Rattle.pc_implicit.proofs.StagesSent.{has_sent_stage, staged_txn}
use Rattle.pc_implicit.proofs.StageWords.{WasRefuted}
use Rattle.pc_implicit.proofs.Turns.{comes_from}
use Rattle.pc_implicit.proofs.Written.{proven_cases}
use Rattle.pc_implicit.proofs.Missing.{missed_stays}
use Rattle.pc_implicit.specs.Decided.{decision}
use Rattle.pc_implicit.specs.Replied.{QueryMissed, WasProven}
use Rattle.pc_implicit.specs.Stages.{IsThere, WasStaged}
use Rattle.pc_implicit.specs.Writes.{home_of, own_intent, txns_of}
use Rattle.pc_proto.specs.declared.event.Event.{Event}
use Rattle.pc_proto.specs.declared.event.Event.TheVariants as events
use Rattle.pc_proto.specs.declared.meta.TxnMeta.{TxnMeta}
use Rattle.pc_proto.specs.declared.record.Intent.{Intent}
use Rattle.pc_proto.specs.declared.record.Record.{Record}
use Rattle.pc_proto.specs.declared.record.Standing.TheVariants as standings
use Rattle.pc_proto.specs.declared.request.Request.TheVariants as requests
use Rattle.pc_proto.specs.declared.why.Why.{Why}
use Rattle.pc_proto.specs.Intents.{last_seq}
use Rattle.pc_proto.specs.Place.{Kept, is_final}
use Rattle.pc_proto.specs.RecordRows.Reached.{status_of}
use Rattle.pc_world.specs.After.{known_at}
use Rattle.pc_world.specs.Committed.{anchor_in}
use Rattle.pc_world.specs.Known.Transactions.{Txn}
use Rattle.pc_world.specs.Local.{Head}
use Rattle.pc_world.specs.Operations.{Operation}
use Rattle.pc_world.specs.Run.{IsRun, protocol}
use Rattle.pc_world.specs.StageFate.{SentStage}

-- The transaction is in the stage's epoch still, and no abort of it was sent.
pub record IsInEpoch (head : Head) (history : List (Entry Event)) (s : SentStage) : Type 0 where
  pub epoch : (t : Txn) → Contains (txns_of head s.meta.id history) t → t.id ≡ s.meta.id → t.epoch ≤ s.meta.epoch
  pub unaborted : (a : Entry Event) → Contains history a → (number range : ℕ) (meta : TxnMeta) (why : Why) (locks : List (List ℕ)) → a.event ≡ events.Send number range (requests.Abort meta why locks) → meta.id ≡ s.meta.id → ⊥

-- Neither this write nor a later one of its key is proven at or below the staged timestamp.
abbrev pub IsUnproven : List (Entry Event) → SentStage → List ℕ × ℕ → Type 0
IsUnproven history s w = (seq p : ℕ) → w.1 ≤ seq → WasProven history s.meta.id s.meta.epoch w.0 seq p → s.ts < p

-- Why it gets no proof at or below the staged timestamp any more.
pub data StaysUnproven (head : Head) (history : List (Entry Event)) (s : SentStage) (w : List ℕ × ℕ) : Type 0 where
  WhileStaged : (r : Record) → home_of head s.meta.id history ≡ Kept r → r.status.standing ≡ standings.Staging → s.meta.epoch ≤ r.status.epoch → s.ts ≤ r.status.ts
      → WasRefuted history s w → StaysUnproven head history s w
  WhereCommitted : (epoch at : ℕ) → decision (home_of head s.meta.id history) ≡ Some (status_of standings.Committed epoch at) → s.ts < at
      → IsOff head history s.meta.id w.0 s.ts → StaysUnproven head history s w
  SinceMissed : (seq at : ℕ) → seq ≤ w.1 → s.ts ≤ at → QueryMissed history s.meta.id s.meta.epoch w.0 seq at → StaysUnproven head history s w

-- The staging fails: some write of its epoch is not proven at or below its timestamp, and stays so.
pub record Fails (head : Head) (history : List (Entry Event)) (s : SentStage) : Type 0 where
  pub w : List ℕ × ℕ
  pub value : Option (List ℕ)
  pub wrote : (t : Txn) → Contains (txns_of head s.meta.id history) t → t.id ≡ s.meta.id → HasPut t s.meta.epoch w.1 w.0 value
  pub unproven : IsUnproven history s w
  pub stays : StaysUnproven head history s w

module _ (head : Head) (s : SentStage) where
  -- ---- what is so before one more entry, where it is so after it

  module _ (history : List (Entry Event)) (run : IsRun head history) (e : Entry Event) (may : MayFollow (protocol head) history e) where
    pub in_epoch_before : IsInEpoch head (history ++ e ∷ []) s → IsInEpoch head history s
    in_epoch_before g = record {
      epoch = λ t there named.
          let m = moved_on head history e run may s.meta.id t there named in
          let later : m.u.epoch ≤ s.meta.epoch = g.epoch m.u m.there m.named in
          by t m.u later m.moves;
      unaborted = λ a there. g.unaborted a (Contains-append_left history (e ∷ []) a there);
    }
      where
        by : (t u : Txn) → u.epoch ≤ s.meta.epoch → {done after : List Operation} → Moves (session_at head s.meta.id history) e.event t u done after → t.epoch ≤ s.meta.epoch
        by t u later (Stays epoch reads writes is) = omega (arith, later, epoch)
        by t u later (Puts key seq value opened asked epoch reads writes is next) = omega (arith, later, epoch)
        by t u later (Reads answer o opened told tells epoch reads writes is) = omega (arith, later, epoch)
        by t u later (Restarts key ts opened told epoch reads writes is) = omega (arith, later, epoch)

    -- the write is one of its transaction after one more entry
    pub wrote_more : (sent : WasStaged history s) (w : List ℕ × ℕ) (value : Option (List ℕ)) → ((t : Txn) → Contains (txns_of head s.meta.id history) t → t.id ≡ s.meta.id → HasPut t s.meta.epoch w.1 w.0 value)
        → (u : Txn) → Contains (txns_of head s.meta.id (history ++ e ∷ [])) u → u.id ≡ s.meta.id → HasPut u s.meta.epoch w.1 w.0 value
    wrote_more sent w value wrote u there named =
        let actor : ActorId = actors.Session s.meta.id.session in
        elim (comes_from head history run e may actor u there) [
          | inl b ↦
              let a = anchored-so head history run actor s (has_sent_stage head history run s sent) in
              let both : None ≡ Some a.0 = sym b.new.anchor ∙ ap (λ i. anchor_in i history) named ∙ a.1 in absurd cc
          | inr c ↦ has-turn head history e (known_at head actor history) c.t u s.meta.epoch w.1 w.0 value (wrote c.t c.there (sym c.same ∙ named)) c.turn
        ]

  -- the transaction, in the stage's epoch
  pub the_txn : (history : List (Entry Event)) → IsRun head history → WasStaged history s → IsInEpoch head history s → (t : Txn) × Contains (txns_of head s.meta.id history) t × (t.id ≡ s.meta.id) × (t.epoch ≡ s.meta.epoch)
  the_txn history run sent g =
      let (t, mine, named) = staged_txn head history run s sent in
      let known = stages_last head history run s sent t mine named in
      let low : s.meta.epoch ≤ t.epoch = known.epoch_low in
      let high : t.epoch ≤ s.meta.epoch = g.epoch t mine named in
      (t, mine, named, omega (arith, low, high))

  -- its own intents are of no later epoch
  pub own_low : (history : List (Entry Event)) → IsRun head history → WasStaged history s → IsInEpoch head history s → (key : List ℕ) (i : Intent) → own_intent head s.meta.id key history ≡ Some i → i.meta.epoch ≤ s.meta.epoch
  own_low history run sent g key i own =
      let (t, mine, named, epoch) = the_txn history run sent g in
      let known : Contains (txns_of head t.id history) t = subst (λ j. Contains (txns_of head j history) t) (sym named) mine in
      let low : i.meta.epoch ≤ t.epoch = ((own_hold head history run t known key).among i (ap (λ j. own_intent head j key history) named ∙ own)).low in
      omega (arith, low, epoch)

  -- ---- no proof comes

  -- an entry that gives a proof of the write gives it above the staged timestamp
  pub gives_above : (history : List (Entry Event)) → IsRun head history → WasStaged history s → IsInEpoch head history s → (w : List ℕ × ℕ) → StaysUnproven head history s w → (seq p : ℕ) → w.1 ≤ seq
      → HasProven (own_intent head s.meta.id w.0 history) s.meta.epoch seq p → s.ts < p
  gives_above history run sent g w stays seq p reached h =
      let low = own_low history run sent g w.0 h.i h.is in
      let p_low = h.low in
      elim h.has [
        | inl later ↦ absurd (omega (arith, later, low))
        | inr is ↦
            let has : seq ≤ last_seq h.i = is.1 in
            elim stays [
              | WhileStaged r home staging epoch ts refuted ↦ elim (at-most p s.ts) [
                | inl below ↦
                    absurd (refuted_absent head history run s w (ap decision home ∙ ap (λ standing. if is_final standing then Some r.status else None) staging) refuted
                    (is_there s w head history (h.i, h.is, record { epoch_is = is.0; has = omega (arith, reached, has); low = omega (arith, p_low, below) })))
                | inr above ↦ above
              ]
              | WhereCommitted epoch at decided above off ↦ (let high = off h.i h.is in omega (arith, high, p_low))
              | SinceMissed first at before high missed ↦ elim (at-most p s.ts) [
                | inl below ↦
                    let there : IsThere head history (record s { ts = at }) (w.0, first) =
                    is_there (record s { ts = at }) (w.0, first) head history (h.i, h.is, record { epoch_is = is.0; has = omega (arith, reached, has, before); low = omega (arith, p_low, below, high) }) in
                    let stays_missing = missed_stays s.meta.id s.meta.epoch first at w.0 head history run missed in
                    let both : true ≡ false = sym there ∙ stays_missing.absent in absurd cc
                | inr above ↦ above
              ]
            ]
      ]

  -- so the write stays unproven over one more entry after which it is so
  pub unproven_more : (history : List (Entry Event)) (e : Entry Event) → IsRun head history → IsRun head (history ++ e ∷ []) → MayFollow (protocol head) history e → WasStaged (history ++ e ∷ []) s → IsInEpoch head (history ++ e ∷ []) s → (w : List ℕ × ℕ)
      → StaysUnproven head (history ++ e ∷ []) s w → IsUnproven history s w → IsUnproven (history ++ e ∷ []) s w
  unproven_more history e run whole may sent g w stays unproven seq p reached proven =
      elim (proven_cases head history run e may s.meta.id s.meta.epoch w.0 seq p proven) [
        | inl old ↦ unproven seq p reached old
        | inr now ↦ gives_above (history ++ e ∷ []) whole sent g w stays seq p reached (proven_now head history run e may s.meta.id s.meta.epoch w.0 seq p now)
      ]
