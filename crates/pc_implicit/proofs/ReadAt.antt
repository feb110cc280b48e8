-- A reply that was heard in the open call to its get or to a piece of its scan is a read of what its transaction had done.
use Rattle.std.proofs.Common.{◌≡◌, ℕ, ◌<◌, ◌≤◌, max, fold, List, [], ◌∷◌, ◌++◌, map, Option, Some, Contains, IsTrue, refl, sym, ap, subst, ◌∙◌, arith}
use Rattle.std.proofs.lemmas.Grind.{fold-append}
use Rattle.std.proofs.lemmas.List.{append-nil}
use Rattle.std.proofs.lemmas.List.Elements.{All-contains, Contains-append_left}
use Rattle.pc_base.specs.declared.actor.ActorId.TheVariants as actors
use Rattle.pc_base.specs.declared.entry.Entry.{Entry}
use Rattle.pc_base.specs.declared.span.Span.{Span}
use Rattle.pc_base.specs.declared.transaction.TxnId.{TxnId}
use Rattle.pc_base.specs.Span.{contains}
use Rattle.pc_implicit.proofs.Agreed.{open_there}
use Rattle.pc_implicit.proofs.Did.{Grows, GrownTo, grown_to, one_known, session_at, writes_are_done}
use Rattle.pc_implicit.proofs.EvaluatedAt.{AnsweredAt, SentAt}
use Rattle.pc_implicit.proofs.Fronts.{IsFront, front_on}
use Rattle.pc_implicit.proofs.ProofsHeard.{proved_is_so, proved_more}
use Rattle.pc_implicit.proofs.PutsDone.{puts_are_done}
use Rattle.pc_implicit.proofs.SessionCommits.{written}
use Rattle.pc_implicit.proofs.SessionReads.{EvaluatesAt, IsReadAt, WasProved, last_seq_done, seq_of}
use Rattle.pc_implicit.proofs.Writings.{RiseFrom, is_a_write, last_written, max-above, seq_below}
use Rattle.pc_lists.proofs.Lists.{contains_in_filter, contains_in_map}
use Rattle.pc_proto.specs.declared.event.Event.{Event}
use Rattle.pc_proto.specs.declared.reply.Reply.{Reply}
use Rattle.pc_proto.specs.declared.request.Request.{Request}
use Rattle.pc_world.proofs.Prefixes.{run_front}
use Rattle.pc_world.specs.Known.{open_txn}
use Rattle.pc_world.specs.Known.Reads.{Read as ReadMade}
use Rattle.pc_world.specs.Known.Transactions.{Txn}
use Rattle.pc_world.specs.Known.Writes.{Write as WriteMade, is_proved, last_seq_of}
use Rattle.pc_world.specs.Local.{Head}
use Rattle.pc_world.specs.Operations.{Operation, Write, operations_of}
use Rattle.pc_world.specs.Run.{IsRun}
use Rattle.pc_world.specs.Send.Reading.{IsReadOf}

-- ---- a front of the writes that has the last one is all of them

rise-back : (n : ℕ) (xs : List Operation) (o : Operation) (os : List Operation) → RiseFrom n (xs ++ o ∷ os) → fold (λ most o. max most (seq_of o)) n xs < seq_of o
rise-back n [] o os rise = rise.0
rise-back n (x ∷ xs) o os rise =
    subst (λ m. fold (λ most o. max most (seq_of o)) m xs < seq_of o) (sym (max-above n (seq_of x) rise.0)) (rise-back (seq_of x) xs o os rise.1)

pub front-full : (xs ys : List Operation) → RiseFrom 0 ys → IsFront xs ys → last_seq_done ys ≡ last_seq_done xs → ys ≡ xs
front-full xs ys rise front last = by front.rest front.whole
  where
    by : (rest : List Operation) → ys ≡ xs ++ rest → ys ≡ xs
    by [] is = is ∙ append-nil xs
    by (o ∷ os) is =
        let low : last_seq_done xs < seq_of o = rise-back 0 xs o os (subst (RiseFrom 0) is rise) in
        let on : max (last_seq_done xs) (seq_of o) ≤ fold (λ most o. max most (seq_of o)) (max (last_seq_done xs) (seq_of o)) os = seq_below (max (last_seq_done xs) (seq_of o)) os in
        let whole : last_seq_done ys ≡ fold (λ most o. max most (seq_of o)) (max (last_seq_done xs) (seq_of o)) os =
        ap last_seq_done is ∙ fold-append (λ most o. max most (seq_of o)) 0 xs (o ∷ os) in
        absurd (let no : ⊥ = omega (arith, low, on, whole, last) in no)

module _ (head : Head) (history : List (Entry Event)) (run : IsRun head history) (id : TxnId) (t : Txn) (mine : Contains (session_at head id history).txns t) (named : t.id ≡ id) where
  -- What the read was sent for, in the transaction's present epoch.
  module _ (number range : ℕ) (request : Request) (told : Reply) (a : AnsweredAt head history (actors.Session id.session) number range request told) (s : SentAt head a.before a.send)
      (seq ts : ℕ) (span : Span) (was : Txn) (opened : open_txn (session_at head id s.before) ≡ Some was) (read : IsReadOf was id t.epoch seq ts span) where
    was-mine : Contains (session_at head id s.before).txns was
    was-mine = open_there (session_at head id s.before) was opened

    run-before : IsRun head a.before
    run-before = run_front head a.before (a.e ∷ a.later) (subst (IsRun head) a.whole run)

    run-sent : IsRun head s.before
    unfolding run-before
    run-sent = run_front head s.before (a.send ∷ s.later) (subst (IsRun head) s.whole run-before)

    to-before : GrownTo head s.before a.before id was
    unfolding run-before was-mine
    to-before = subst (λ h. GrownTo head s.before h id was) (sym s.whole) (grown_to head s.before (a.send ∷ s.later) (subst (IsRun head) s.whole run-before) id was was-mine (sym read.whose))

    to-now : (u : Txn) → Contains (session_at head id a.before).txns u → u.id ≡ id → GrownTo head a.before history id u
    to-now u there same = subst (λ h. GrownTo head a.before h id u) (sym a.whole) (grown_to head a.before (a.e ∷ a.later) (subst (IsRun head) a.whole run) id u there same)

    -- The transaction from where the read was sent, over its evaluation, until now.
    record IsPassed : Type 0 where
      u : Txn
      there : Contains (session_at head id a.before).txns u
      same : u.id ≡ id
      epoch : u.epoch ≡ t.epoch
      part : IsFront (operations_of a.before id) (operations_of history id)
      writes : IsFront (map written was.writes) (map written t.writes)

    passed : IsPassed
    unfolding to-before
    passed =
        let g = to-before in
        let n = to-now g.u g.there g.named in
        let one : n.u ≡ t = one_known head history run id n.u t n.there mine (n.named ∙ sym named) in
        let grows : Grows head g.u t (operations_of a.before id) (operations_of history id) = subst (λ x. Grows head g.u x (operations_of a.before id) (operations_of history id)) one n.grows in
        let first : was.epoch ≤ g.u.epoch = g.grows.rises in
        let second : g.u.epoch ≤ t.epoch = grows.rises in
        let same : t.epoch ≡ was.epoch = read.epoch_now in
        let epoch : g.u.epoch ≡ t.epoch = omega (arith, first, second, same) in
        record {
          u = g.u;
          there = g.there;
          same = g.named;
          epoch = epoch;
          part = grows.operations epoch;
          writes = front_on (map written was.writes) (map written g.u.writes) (map written t.writes) (g.grows.writes (sym same ∙ sym epoch)) (grows.writes epoch);
        }

    module _ (last : last_seq_of t.writes ≡ seq) where
      same-writes : map written t.writes ≡ map written was.writes
      same-writes =
          let w = writes_are_done head history run id t mine named in
          front-full (map written was.writes) (map written t.writes) w.rise passed.writes (sym (last_written t.writes) ∙ last ∙ read.own_writes ∙ last_written was.writes)

      proved-before : (key : List ℕ) (own : ℕ) (value : Option (List ℕ)) → Contains (operations_of history id) (Write key own value) → IsTrue (contains span key) → (at : ℕ) × WasProved head a.before id t.epoch own key at
      unfolding run-sent was-mine same-writes
      proved-before key own value there inside =
          let w = writes_are_done head history run id t mine named in
          let among : Contains (map written was.writes) (Write key own value) =
          subst (λ os. Contains os (Write key own value)) (w.same ∙ same-writes) (contains_in_filter is_a_write (operations_of history id) (Write key own value) there refl) in
          let what = contains_in_map written was.writes (Write key own value) among in
          let is : Write what.0.key what.0.seq what.0.value ≡ Write key own value = what.2 in
          let key_is : what.0.key ≡ key = cc is in
          let seq_is : what.0.seq ≡ own = cc is in
          let proved : IsTrue (contains span what.0.key) → IsTrue (is_proved what.0) = All-contains (λ (x : WriteMade). IsTrue (contains span x.key) → IsTrue (is_proved x)) was.writes what.0 read.proved what.1 in
          let p = proved_is_so head s.before run-sent (actors.Session id.session) was what.0 was-mine what.1 (proved (subst (λ k. IsTrue (contains span k)) (sym key_is) inside)) in
          let own_name : WasProved head s.before id t.epoch what.0.seq what.0.key p.0 =
          subst (λ i. WasProved head s.before i t.epoch what.0.seq what.0.key p.0) (sym read.whose)
          (subst (λ n. WasProved head s.before was.id n what.0.seq what.0.key p.0) (sym read.epoch_now) p.1) in
          let here : WasProved head s.before id t.epoch own key p.0 = subst (λ n. WasProved head s.before id t.epoch n key p.0) seq_is (subst (λ k. WasProved head s.before id t.epoch what.0.seq k p.0) key_is own_name) in
          (p.0, subst (λ h. WasProved head h id t.epoch own key p.0) (sym s.whole) (proved_more head s.before (a.send ∷ s.later) id t.epoch own key p.0 here))

      -- it is a read of what was done
      pub is_read_at : (asks : ℕ → ℕ → Request) → request ≡ asks seq ts → (reads : List ReadMade) → Contains reads (record { span = span; ts = ts })
          → IsReadAt head history id t.epoch reads (operations_of history id) span range asks told
      is_read_at asks is reads kept = record {
        before = a.before;
        e = a.e;
        later = a.later;
        whole = a.whole;
        seq = seq;
        ts = ts;
        evaluates = subst (λ q. EvaluatesAt head a.before a.e range q told) is a.at;
        last = sym last ∙ (writes_are_done head history run id t mine named).last;
        proved = proved-before;
        kept = kept;
        only = λ x there.
            puts_are_done head history run id t mine named x
            (subst (λ h. Contains h x) (sym a.whole) (Contains-append_left a.before (a.e ∷ a.later) x there));
        earlier = record { t = passed.u; mine = passed.there; named = passed.same; same_epoch = passed.epoch; part = passed.part };
      }
