-- Of the messages of an open call that are waited for, at most one speaks of a record, and a heartbeat is alone.
use Rattle.std.proofs.Common.{◌≡◌, ◌≢◌, ℕ, Bool, true, List, [], ◌∷◌, inl, inr, map, None, Some, refl, sym, ap, ◌∙◌, subst, arith, All, Contains, ◌<◌}
use Rattle.std.proofs.lemmas.List.Elements.{All-cons, All-contains, All-map, All-nil, All-weaker}
use Rattle.std.proofs.lemmas.Option.{same_Some}
use Rattle.pc_base.specs.declared.limits.TheConstants.{MOST_CONFLICTS}
use Rattle.pc_call.specs.declared.purpose.Purpose.{Purpose}
use Rattle.pc_call.specs.declared.purpose.Purpose.TheVariants as purposes
use Rattle.pc_call.specs.Serving.{AreReadsOf, InCall, SendsAgain, Serves, StageStands}
use Rattle.pc_call.specs.Setting.{Setting}
use Rattle.pc_coord.proofs.Aside.{awaited_in, lone, one_number}
use Rattle.pc_coord.proofs.Lists.{every}
use Rattle.pc_coord.proofs.Onward.{IsAlone, alone}
use Rattle.pc_coord.proofs.Staging.{only_one, parts_of}
use Rattle.pc_coord.proofs.Steps.{calls}
use Rattle.pc_coord.specs.Coordination.{Coordination, awaits_number, setting_of}
use Rattle.pc_coord.specs.declared.due.Due.{Due}
use Rattle.pc_coord.specs.declared.due.Due.TheVariants as dues
use Rattle.pc_coord.specs.Knows.{Knows}
use Rattle.pc_coord.specs.OneRecord.{AwaitsOneRecord}
use Rattle.pc_call.proofs.Lists.{all_unmapped}
use Rattle.pc_proto.specs.declared.call.Call.{Call}
use Rattle.pc_proto.specs.declared.call.Call.TheVariants as calls
use Rattle.pc_proto.specs.declared.request.Request.{Request}
use Rattle.pc_proto.specs.Requests.{subject}
use Rattle.pc_reads.specs.ReadsStanding.{refresh_to}
use Rattle.pc_txn.specs.declared.txn.OpenTxn.{OpenTxn}
use Rattle.pc_txn.specs.Opened.{own_get, own_scan}
use Rattle.pc_wave.proofs.Hearing.{awaits_as}
use Rattle.pc_wave.specs.declared.message.Message.{Message}
use Rattle.pc_wave.specs.Messages.{awaits_at, wave_awaits}
use Rattle.pc_wave.specs.Standing.{IsAsFar, IsOnItsWay, MessageStands}
use Rattle.pc_world.specs.Known.{Known}
use Rattle.pc_world.specs.Known.Traffic.{request_sent}
use Rattle.pc_world.specs.RangeOf.{pieces}

module _ (set : Setting) (k : Known) (x : OpenTxn) (p : Purpose) (ms : List Message) (w : InCall set k x p ms) where
  -- The message speaks of no record.
  abbrev Silent : Message → Type 0
  Silent m = subject m.request ≡ None

  silent_reads : (call : Call) (rs : List Request) → AreReadsOf set.splits x call rs → All (λ r. subject r ≡ None) rs
  silent_reads (calls.Get key) rs e = subst (λ rs. All (λ r. subject r ≡ None) rs) (sym e) (All-cons (λ r. subject r ≡ None) (own_get x key) [] refl (All-nil (λ r. subject r ≡ None)))
  silent_reads (calls.Scan span) rs e =
      subst (λ rs. All (λ r. subject r ≡ None) rs) (sym e)
      (All-map (λ r. subject r ≡ None) (λ p. own_scan x p.1) (pieces set.splits span) (every (λ p. subject (own_scan x p.1) ≡ None) (λ p. refl) (pieces set.splits span)))
  silent_reads call rs e = absurd e

  silent_refreshes : All (λ r. subject r ≡ None) (map (refresh_to x.id x.reads.ts x.write_ts) x.reads.spans)
  silent_refreshes = All-map (λ r. subject r ≡ None) (refresh_to x.id x.reads.ts x.write_ts) x.reads.spans (every (λ span. subject (refresh_to x.id x.reads.ts x.write_ts span) ≡ None) (λ span. refl) x.reads.spans)

  module _ (one other : ℕ) (m q : Message) (m_there : Contains ms m) (q_there : Contains ms q) (m_waits : awaits_at one m ≡ true) (q_waits : awaits_at other q ≡ true) (waits : wave_awaits one ms ≡ true) where
    by_alone : (a : Purpose) → p ≡ a → IsAlone a → one ≡ other
    by_alone a is lonely = let o = alone set k x p ms w a is lonely in sym (lone one ms o.0 o.1 waits q q_there other q_waits)

    by_stage : (stage : List Message) (anchor : List ℕ) → StageStands k w.s w.t x w.stages anchor stage → Contains stage m → Contains stage q → one ≡ other
    by_stage [] anchor st there too = absurd (omega (arith, there.1))
    by_stage (s ∷ []) anchor st there too = one_number one other m m_waits (subst (λ q. awaits_at other q ≡ true) (sym (only_one s q too) ∙ only_one s m there) q_waits)
    by_stage (s ∷ two ∷ more) anchor st there too = absurd st

    pub same_record : subject m.request ≢ None → subject q.request ≢ None → one ≡ other
    same_record speaks too = by p refl w.serves
      where
        loud : All Silent ms → one ≡ other
        loud silent = absurd (speaks (All-contains Silent ms m silent m_there))

        by : (a : Purpose) → p ≡ a → Serves set k w.s w.t x w.stages a ms → one ≡ other
        by (purposes.Prove call all) is s = loud (All-weaker (SendsAgain call all k w.t x) Silent (λ m a. ap subject a.said) ms s.again)
        by purposes.Read is s = loud (all_unmapped (λ r. subject r ≡ None) (λ m. m.request) ms (silent_reads w.s.call _ s.asked))
        by (purposes.Refresh n puts) is s = loud (all_unmapped (λ r. subject r ≡ None) (λ m. m.request) ms (subst (λ rs. All (λ r. subject r ≡ None) rs) (sym s.asked) silent_refreshes))
        by (purposes.Stage n) is s =
            let put_silent : (m : Message) → Contains s.wave.puts m → Silent m = λ m there. ap subject (All-contains (SendsAgain calls.Commit true k w.t x) s.wave.puts m s.wave.again there).said in
            elim (parts_of s.wave.puts s.wave.stage m (subst (λ ms. Contains ms m) s.wave.whole m_there)) [
              | inl put ↦ absurd (speaks (put_silent m put))
              | inr stage ↦
                  elim (parts_of s.wave.puts s.wave.stage q (subst (λ ms. Contains ms q) s.wave.whole q_there)) [
                    | inl put ↦ absurd (too (put_silent q put))
                    | inr staged ↦ by_stage s.wave.stage s.commits.anchor s.wave.stands stage staged
                  ]
            ]
        by (purposes.Beat call reading) is s = by_alone (purposes.Beat call reading) is tt
        by purposes.Write is s = by_alone purposes.Write is tt
        by (purposes.Query n holder puts) is s = by_alone (purposes.Query n holder puts) is tt
        by (purposes.Commit n) is s = by_alone (purposes.Commit n) is tt
        by (purposes.LastBeat answer reading) is s = by_alone (purposes.LastBeat answer reading) is tt
        by (purposes.Abort why) is s = by_alone (purposes.Abort why) is tt

  -- what is waited for was sent as its message says
  pub said_as : (number : ℕ) (m : Message) → Contains ms m → awaits_at number m ≡ true → (asked : Request) → request_sent number k.sent ≡ Some asked → m.request ≡ asked
  said_as number m there waits asked said =
      let s : MessageStands set.course k m = All-contains (MessageStands set.course k) ms m w.wave.stand there in
      let far : IsOnItsWay set.course k number m.request × (m.conflicts < MOST_CONFLICTS) = subst (λ p. IsAsFar set.course k m.request m.conflicts p) (awaits_as number m.progress waits) s.as_far in
      same_Some m.request asked (sym far.0.out.said ∙ said)

-- two messages that are waited for, and speak of records, are one
pub one_record : (loses : Bool) (c : Coordination) (k : Known) → Knows loses c k → AwaitsOneRecord c k
one_record loses c k knows one other asked too waits also said says speaks loud = by c.due refl waits also
  where
    by : (due : Due) → c.due ≡ due → awaits_number one due ≡ true → awaits_number other due ≡ true → one ≡ other
    by dues.Nothing is waits also = absurd cc
    by (dues.Tell answer) is waits also = absurd cc
    by (dues.Call call) is waits also =
        let n = calls loses c k call knows is in
        let m = awaited_in one call.wave waits in
        let q = awaited_in other call.wave also in
        same_record (setting_of loses c) k n.x call.purpose call.wave n.in_call one other m.0 q.0 m.1 q.1 m.2 q.2 waits
        (λ none. speaks (sym (ap subject (said_as (setting_of loses c) k n.x call.purpose call.wave n.in_call one m.0 m.1 m.2 asked said)) ∙ none))
        (λ none. loud (sym (ap subject (said_as (setting_of loses c) k n.x call.purpose call.wave n.in_call other q.0 q.1 q.2 too says)) ∙ none))
