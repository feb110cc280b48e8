-- The writes of the epoch stand on when one is sent, for the first time or again, or is written.
use Rattle.std.proofs.Common.{◌≡◌, ℕ, ◌+◌, ◌<◌, ◌≤◌, Bool, true, false, cond, ◌==◌, ◌&&◌, ◌||◌, not, inl, inr, List, [], ◌∷◌, ◌++◌, map, Option, Some, refl, sym, ap, ◌∙◌, subst, arith, All, Any, Contains, IsTrue, unwrap_or}
use Rattle.std.specs.List.{list_any}
use Rattle.std.proofs.lemmas.Bool.{and_from, and_parts, eq-eqb, eqb-true}
use Rattle.std.proofs.lemmas.List.Elements.{All-append, All-contains, All-head, All-map, All-nil, All-push, All-tail, All-weaker}
use Rattle.std.proofs.lemmas.List.Folds.{list_any-append}
use Rattle.pc_base.specs.Span.{same_key}
use Rattle.pc_follows.specs.PipelinedPuts.{proves}
use Rattle.pc_lists.proofs.Anywhere.{any_kept, any_last}
use Rattle.pc_lists.proofs.Lists.{all_from_contains, contains_cons, contains_nil}
use Rattle.pc_lists.proofs.Same.{same_key-equal, same_key-is}
use Rattle.pc_proto.specs.Requests.{is_put_of}
use Rattle.pc_txn.proofs.Locks.{locked-kept}
use Rattle.pc_txn.proofs.Proves.{all_proves_as}
use Rattle.pc_txn.proofs.Writes.{asked-key, asked-proofs, asked-seq, below_last, proved-key, proved-seq, with_lock-again}
use Rattle.pc_txn.specs.Writing.{AreEarlierFirst, IsEarlier, IsKeyLocked, IsNotWritten, IsProvedByHeard, IsUnwrittenWhereUnproved, PutsUpTo, WasWriteSent, WritesStand}
use Rattle.pc_wave.proofs.Lists.{any_true_kept}
use Rattle.pc_world.specs.Known.Traffic.{Heard, Sent}
use Rattle.pc_world.specs.Known.Transactions.{Txn, with_lock}
use Rattle.pc_world.specs.Known.Writes.{Write, asked_again, is_proved, last_seq_of, proved_at}

-- two writes of one sequence are the same
pub one_of_seq : (ws : List Write) → AreEarlierFirst ws → (a b : Write) → Contains ws a → Contains ws b → a.seq ≡ b.seq → a ≡ b
one_of_seq [] p a b there also same = absurd (contains_nil a there)
one_of_seq (w ∷ ws) p a b there also same =
    elim (contains_cons w ws a there) [
      | inl first ↦
          elim (contains_cons w ws b also) [
            | inl too ↦ sym first ∙ too
            | inr later ↦ let low : w.seq < b.seq = All-contains (IsEarlier w) ws b p.0 later in let at : w.seq ≡ a.seq = ap (λ (w : Write). w.seq) first in absurd (omega arith)
          ]
      | inr behind ↦
          elim (contains_cons w ws b also) [
            | inl too ↦ let low : w.seq < a.seq = All-contains (IsEarlier w) ws a p.0 behind in let at : w.seq ≡ b.seq = ap (λ (w : Write). w.seq) too in absurd (omega arith)
            | inr later ↦ one_of_seq ws p.1 a b behind later same
          ]
    ]

earlier-push : (ws : List Write) (n : Write) → AreEarlierFirst ws → All (λ w. w.seq < n.seq) ws → AreEarlierFirst (ws ++ n ∷ [])
earlier-push [] n p low = (All-nil (IsEarlier n), tt)
earlier-push (w ∷ ws) n p low = (All-push (IsEarlier w) ws n p.0 (All-head (λ w. w.seq < n.seq) w ws low), earlier-push ws n p.1 (All-tail (λ w. w.seq < n.seq) w ws low))

earlier-map : (f : Write → Write) → ((w : Write) → (f w).seq ≡ w.seq) → (ws : List Write) → AreEarlierFirst ws → AreEarlierFirst (map f ws)
earlier-map f same [] p = tt
earlier-map f same (w ∷ ws) p = (
  All-map (IsEarlier (f w)) f ws (All-weaker (IsEarlier w) (λ v. IsEarlier (f w) (f v)) (λ v low. let a = same w in let b = same v in omega (arith, a, b, low)) ws p.0),
  earlier-map f same ws p.1,
)

module _ (sent sent_more : List Sent) (heard heard_more : List Heard) (t : Txn) (w : WritesStand sent heard t) where
  -- beside what else is sent and heard
  pub writes_on : All (λ h. (seq : ℕ) → IsNotWritten t seq h) heard_more → WritesStand (sent ++ sent_more) (heard ++ heard_more) t
  writes_on leave = record {
    by_sequence = w.by_sequence;
    each_sent =
        All-weaker (WasWriteSent t sent) (WasWriteSent t (sent ++ sent_more))
        (λ v went. any_kept (λ m. IsTrue (is_put_of t.id t.epoch v.seq m.request)) sent sent_more went) t.writes w.each_sent;
    unwritten =
        All-weaker (IsUnwrittenWhereUnproved t heard) (IsUnwrittenWhereUnproved t (heard ++ heard_more))
        (λ v u unproved. All-append (IsNotWritten t v.seq) heard heard_more (u unproved) (All-weaker (λ h. (seq : ℕ) → IsNotWritten t seq h) (IsNotWritten t v.seq) (λ h none. none v.seq) heard_more leave)) t.writes w.unwritten;
    heard_proved = All-weaker (IsProvedByHeard t heard) (IsProvedByHeard t (heard ++ heard_more)) (λ v was proved. any_true_kept (proves t v) heard heard_more (was proved)) t.writes w.heard_proved;
    locked = w.locked;
    unanchored = w.unanchored;
  }

or_true : (a : Bool) → (a || true) ≡ true
or_true true = refl
or_true false = refl

abbrev pub new_write : ℕ → ℕ → List ℕ → Option (List ℕ) → Write
new_write seq ts key value = record { key = key; seq = seq; value = value; asked = ts ∷ []; proofs = [] }

-- The transaction once its next put was sent.
abbrev pub laid : List ℕ → Option (List ℕ) → Txn → Txn
laid key value t = record t {
  anchor = Some (unwrap_or t.anchor key);
  locks = with_lock key t.locks;
  writes = t.writes ++ new_write (last_seq_of t.writes + 1) t.write_ts key value ∷ [];
}

module _ (sent : List Sent) (heard : List Heard) (t : Txn) (key : List ℕ) (value : Option (List ℕ)) (m : Sent) (w : WritesStand sent heard t) (put_heard : All (λ h. PutsUpTo t (last_seq_of t.writes) h.request) heard)
    (puts : IsTrue (is_put_of t.id t.epoch (last_seq_of t.writes + 1) m.request)) where
  abbrev n : Write
  n = new_write (last_seq_of t.writes + 1) t.write_ts key value

  -- the next write was sent
  pub writes_laid : WritesStand (sent ++ m ∷ []) heard (laid key value t)
  writes_laid = record {
    by_sequence = earlier-push t.writes n w.by_sequence (All-weaker (λ w. w.seq ≤ last_seq_of t.writes) (λ w. w.seq < last_seq_of t.writes + 1) (λ w low. omega (arith, low)) t.writes (below_last t.writes));
    each_sent =
        All-push (WasWriteSent t (sent ++ m ∷ [])) t.writes n
        (All-weaker (WasWriteSent t sent) (WasWriteSent t (sent ++ m ∷ [])) (λ v went. any_kept (λ m. IsTrue (is_put_of t.id t.epoch v.seq m.request)) sent (m ∷ []) went) t.writes w.each_sent)
        (any_last (λ m. IsTrue (is_put_of t.id t.epoch (last_seq_of t.writes + 1) m.request)) sent m puts);
    unwritten =
        All-push (IsUnwrittenWhereUnproved t heard) t.writes n w.unwritten
        (λ unproved.
        All-weaker (λ h. PutsUpTo t (last_seq_of t.writes) h.request) (IsNotWritten t (last_seq_of t.writes + 1))
        (λ h up put. let low : last_seq_of t.writes + 1 ≤ last_seq_of t.writes = (up t.epoch (last_seq_of t.writes + 1) put).1 refl in absurd (omega arith)) heard put_heard);
    heard_proved = All-push (IsProvedByHeard t heard) t.writes n w.heard_proved (λ proved. let f : false ≡ true = proved in absurd cc);
    locked =
        All-push (IsKeyLocked (with_lock key t.locks)) t.writes n
        (All-weaker (IsKeyLocked t.locks) (IsKeyLocked (with_lock key t.locks)) (λ v is. locked-kept v.key key t.locks is) t.writes w.locked) (with_lock-again key t.locks);
    unanchored = λ none. absurd cc;
  }

-- The transaction once a write of its was sent again, at this timestamp.
abbrev pub laid_again : ℕ → ℕ → Txn → Txn
laid_again seq ts t = record t { writes = map (asked_again seq ts) t.writes }

module _ (sent : List Sent) (heard : List Heard) (t : Txn) (seq ts : ℕ) (m : Sent) (w : WritesStand sent heard t) where
  abbrev again : Write → Write
  again = asked_again seq ts

  sent_one : (v : Write) → WasWriteSent t sent v → WasWriteSent t (sent ++ m ∷ []) (again v)
  sent_one v went =
      subst (λ n. Any (λ m. IsTrue (is_put_of t.id t.epoch n m.request)) (sent ++ m ∷ [])) (sym (asked-seq seq ts v))
      (any_kept (λ m. IsTrue (is_put_of t.id t.epoch v.seq m.request)) sent (m ∷ []) went)

  unwritten_one : (v : Write) → IsUnwrittenWhereUnproved t heard v → IsUnwrittenWhereUnproved t heard (again v)
  unwritten_one v u unproved =
      subst (λ n. All (IsNotWritten t n) heard) (sym (asked-seq seq ts v))
      (u (sym (ap (λ ps. not (list_any (λ n. true) ps)) (asked-proofs seq ts v)) ∙ unproved))

  proved_one : (v : Write) → IsProvedByHeard t heard v → IsProvedByHeard t heard (again v)
  proved_one v was proved =
      all_proves_as t t (again v) v refl refl (asked-key seq ts v) (asked-seq seq ts v) heard
      ∙ was (sym (ap (λ ps. list_any (λ n. true) ps) (asked-proofs seq ts v)) ∙ proved)

  none_again : (ws : List Write) → ws ≡ [] → map again ws ≡ []
  none_again ws e = ap (map again) e

  -- a write was sent again
  pub writes_resent : WritesStand (sent ++ m ∷ []) heard (laid_again seq ts t)
  writes_resent = record {
    by_sequence = earlier-map again (asked-seq seq ts) t.writes w.by_sequence;
    each_sent = All-map (WasWriteSent t (sent ++ m ∷ [])) again t.writes (All-weaker (WasWriteSent t sent) (λ v. WasWriteSent t (sent ++ m ∷ []) (again v)) sent_one t.writes w.each_sent);
    unwritten = All-map (IsUnwrittenWhereUnproved t heard) again t.writes (All-weaker (IsUnwrittenWhereUnproved t heard) (λ v. IsUnwrittenWhereUnproved t heard (again v)) unwritten_one t.writes w.unwritten);
    heard_proved = All-map (IsProvedByHeard t heard) again t.writes (All-weaker (IsProvedByHeard t heard) (λ v. IsProvedByHeard t heard (again v)) proved_one t.writes w.heard_proved);
    locked =
        All-map (IsKeyLocked t.locks) again t.writes
        (All-weaker (IsKeyLocked t.locks) (λ v. IsKeyLocked t.locks (again v)) (λ v is. subst (λ key. with_lock key t.locks ≡ t.locks) (sym (asked-key seq ts v)) is) t.writes w.locked);
    unanchored = λ none. none_again t.writes (w.unanchored none);
  }

module _ (heard : List Heard) (sent : List Sent) (t : Txn) (key : List ℕ) (seq at write_ts : ℕ) (h : Heard) (w : WritesStand sent heard t) (own : Write) (there : Contains t.writes own) (place : own.key ≡ key) (number : own.seq ≡ seq)
    (only : (n : ℕ) → IsTrue (is_put_of t.id t.epoch n h.request) → n ≡ seq) (shows : (v : Write) → v.key ≡ key → v.seq ≡ seq → proves t v h ≡ true) where
  abbrev prove : Write → Write
  prove = proved_at key seq at

  -- The transaction once its write was written.
  abbrev pub placed : Txn
  placed = record t { write_ts = write_ts; writes = map prove t.writes }

  own_hit : (v : Write) → Contains t.writes v → v.seq ≡ seq → (v.seq == seq && same_key v.key key) ≡ true
  own_hit v inside is =
      let same : own ≡ v = one_of_seq t.writes w.by_sequence own v there inside (number ∙ sym is) in
      and_from (v.seq == seq) (same_key v.key key) (eq-eqb v.seq seq is) (same_key-equal v.key key (sym (ap (λ (w : Write). w.key) same) ∙ place))

  more_proved : (proofs : List ℕ) → list_any (λ ts. true) (proofs ++ at ∷ []) ≡ true
  more_proved [] = refl
  more_proved (p ∷ ps) = refl

  -- a write that is not proved then was not before, and is of another sequence
  unproved_one : (v : Write) → Contains t.writes v → IsTrue (not (is_proved (prove v))) → IsTrue (not (is_proved v)) × (v.seq ≡ seq → ⊥)
  unproved_one v inside unproved = by (v.seq == seq && same_key v.key key) refl unproved
    where
      by : (b : Bool) → (v.seq == seq && same_key v.key key) ≡ b → IsTrue (not (is_proved (cond b (record v { proofs = v.proofs ++ at ∷ [] }) v))) → IsTrue (not (is_proved v)) × (v.seq ≡ seq → ⊥)
      by true hit u = let p = more_proved v.proofs in absurd cc
      by false miss u = (u, λ is. let hit = own_hit v inside is in absurd cc)

  unwritten_then : (v : Write) → Contains t.writes v → IsUnwrittenWhereUnproved t heard v → IsUnwrittenWhereUnproved t (heard ++ h ∷ []) (prove v)
  unwritten_then v inside u unproved =
      let parts = unproved_one v inside unproved in
      subst (λ n. All (IsNotWritten t n) (heard ++ h ∷ [])) (sym (proved-seq key seq at v))
      (All-push (IsNotWritten t v.seq) heard h (u parts.0) (λ put. absurd (parts.1 (only v.seq put))))

  -- one that is proved then was before, or is proved by the reply
  proved_then : (v : Write) → IsProvedByHeard t heard v → IsProvedByHeard t (heard ++ h ∷ []) (prove v)
  proved_then v was proved = all_proves_as t t (prove v) v refl refl (proved-key key seq at v) (proved-seq key seq at v) (heard ++ h ∷ []) ∙ by (v.seq == seq && same_key v.key key) refl proved
    where
      by : (b : Bool) → (v.seq == seq && same_key v.key key) ≡ b → IsTrue (is_proved (cond b (record v { proofs = v.proofs ++ at ∷ [] }) v)) → list_any (proves t v) (heard ++ h ∷ []) ≡ true
      by true hit is =
          let parts = and_parts (v.seq == seq) (same_key v.key key) hit in
          list_any-append (proves t v) heard (h ∷ [])
          ∙ ap (λ b. list_any (proves t v) heard || (b || false)) (shows v (same_key-is v.key key parts.1) (eqb-true v.seq seq parts.0)) ∙ or_true (list_any (proves t v) heard)
      by false miss is = any_true_kept (proves t v) heard (h ∷ []) (was is)

  none_then : (ws : List Write) → ws ≡ [] → map prove ws ≡ []
  none_then ws e = ap (map prove) e

  -- a write was written
  pub writes_landed : WritesStand sent (heard ++ h ∷ []) placed
  writes_landed = record {
    by_sequence = earlier-map prove (proved-seq key seq at) t.writes w.by_sequence;
    each_sent =
        All-map (WasWriteSent t sent) prove t.writes
        (All-weaker (WasWriteSent t sent) (λ v. WasWriteSent t sent (prove v)) (λ v went. subst (λ n. Any (λ m. IsTrue (is_put_of t.id t.epoch n m.request)) sent) (sym (proved-seq key seq at v)) went) t.writes w.each_sent);
    unwritten =
        All-map (IsUnwrittenWhereUnproved t (heard ++ h ∷ [])) prove t.writes
        (all_from_contains (λ v. IsUnwrittenWhereUnproved t (heard ++ h ∷ []) (prove v)) t.writes
        (λ v inside. unwritten_then v inside (All-contains (IsUnwrittenWhereUnproved t heard) t.writes v w.unwritten inside)));
    heard_proved =
        All-map (IsProvedByHeard t (heard ++ h ∷ [])) prove t.writes
        (All-weaker (IsProvedByHeard t heard) (λ v. IsProvedByHeard t (heard ++ h ∷ []) (prove v)) proved_then t.writes w.heard_proved);
    locked =
        All-map (IsKeyLocked t.locks) prove t.writes
        (All-weaker (IsKeyLocked t.locks) (λ v. IsKeyLocked t.locks (prove v)) (λ v is. subst (λ key. with_lock key t.locks ≡ t.locks) (sym (proved-key key seq at v)) is) t.writes w.locked);
    unanchored = λ none. none_then t.writes (w.unanchored none);
  }

  -- a write that was proved stays as it was, where the one that was written was not
  pub proved_stays : IsTrue (not (is_proved own)) → (v : Write) → Contains t.writes v → IsTrue (is_proved v) → prove v ≡ v
  proved_stays unproved v inside proved = by (v.seq == seq && same_key v.key key) refl
    where
      by : (b : Bool) → (v.seq == seq && same_key v.key key) ≡ b → cond b (record v { proofs = v.proofs ++ at ∷ [] }) v ≡ v
      by false miss = refl
      by true hit =
          let is : v.seq ≡ seq = eqb-true v.seq seq (and_parts (v.seq == seq) (same_key v.key key) hit).0 in
          let same : own ≡ v = one_of_seq t.writes w.by_sequence own v there inside (number ∙ sym is) in
          let not_it : not (is_proved v) ≡ true = sym (ap (λ (w : Write). not (is_proved w)) same) ∙ unproved in
          absurd cc
