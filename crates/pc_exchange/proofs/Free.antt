-- What lets a round's message go out in a call lets the next one go: messages of rounds take nothing from it.
use Rattle.std.proofs.Common.{◌≡◌, ℕ, true, false, Bool, ◌||◌, ◌&&◌, ◌==◌, inl, inr, All, Any, Contains, IsTrue, List, [], ◌∷◌, ◌++◌, Some, refl, sym, ap, ◌∙◌, subst}
use Rattle.std.proofs.lemmas.List.Elements.{All-contains, All-weaker, Contains-append_cases, Contains-append_right}
use Rattle.std.proofs.lemmas.List.Folds.{list_any-append}
use Rattle.std.specs.List.{list_any}
use Rattle.std.specs.Option.{option_map_or}
use Rattle.pc_exchange.proofs.Lists.{any_front}
use Rattle.pc_exchange.proofs.Timely.{no_beat}
use Rattle.pc_exchange.proofs.Unsent.{awaited_before, awaited_put, own_before}
use Rattle.pc_exchange.specs.Aside.{IsAside, IsLaterAside, IsOfRoundOrJob}
use Rattle.pc_exchange.specs.Rounds.{MayGoInCall}
use Rattle.pc_follows.specs.EarlyTell.{IsCommitDecided}
use Rattle.pc_follows.specs.Heartbeats.{is_heartbeat}
use Rattle.pc_follows.specs.LastBeats.{HasSentLastBeat}
use Rattle.pc_follows.specs.Proving.{IsAwaitedPut}
use Rattle.pc_follows.specs.WaveOrder.{IsHeardOrPut}
use Rattle.pc_lists.proofs.Lists.{all_from_contains, contains_head}
use Rattle.pc_proto.specs.declared.request.Request.{Request}
use Rattle.pc_proto.specs.declared.request.Request.TheVariants as requests
use Rattle.pc_proto.specs.Replies.{view_in}
use Rattle.pc_proto.specs.Requests.{is_about, is_commit, is_put}
use Rattle.pc_proto.specs.Views.{is_committed_at, is_staging_at}
use Rattle.pc_world.specs.Known.{Known, call_in, open_txn}
use Rattle.pc_world.specs.Known.Statements.{Statement}
use Rattle.pc_world.specs.Known.Traffic.{Heard, Sent}
use Rattle.pc_world.specs.Known.Transactions.{Txn}
use Rattle.pc_world.specs.Tell.End.{shows_staging}
use Rattle.pc_world.specs.Tell.Refusal.{is_heard}
use Rattle.pc_world.specs.Views.{ShowsAborted, shows_committed}
use Rattle.pc_wave.specs.Standing.{goes_beside}

-- one that is so stands in front, where none behind is
cut-front : {X : Type 0} (P : X → Type 0) (xs more front back : List X) (x : X) → xs ++ more ≡ front ++ (x ∷ back) → All (λ y. P y → ⊥) more → P x → (rest : List X) × (xs ≡ front ++ (x ∷ rest))
cut-front P [] more front back x whole none is =
    absurd (All-contains (λ y. P y → ⊥) more x none (subst (λ l. Contains l x) (sym whole) (Contains-append_right front (x ∷ back) x (contains_head x back))) is)
cut-front P (y ∷ xs) more [] back x whole none is = let first : y ≡ x = cc in (xs, ap (λ z. z ∷ xs) first)
cut-front P (y ∷ xs) more (z ∷ front) back x whole none is =
    let first : y ≡ z = cc in
    let rest : xs ++ more ≡ front ++ (x ∷ back) = cc in
    let on = cut-front P xs more front back x rest none is in
    (on.0, ap (λ l. y ∷ l) on.1 ∙ ap (λ w. w ∷ (front ++ (x ∷ on.0))) first)

round-no_put : (request : Request) → goes_beside request ≡ true → is_put request ≡ false
round-no_put (requests.Push holder by level now goal) is = refl
round-no_put (requests.Query id epoch seq ts key by) is = refl
round-no_put (requests.Recover id epoch ts anchor finding) is = refl
round-no_put (requests.Resolve id key fate) is = refl
round-no_put (requests.Remove id anchor) is = refl
round-no_put request is = absurd cc

commit-is_no_put : (request : Request) → is_commit request ≡ true → is_put request ≡ false
commit-is_no_put (requests.Commit meta ts locks) is = refl
commit-is_no_put request is = absurd cc

-- what goes beside is no put
pub aside_no_put : (k : Known) (request : Request) → IsOfRoundOrJob k request → is_put request ≡ false
aside_no_put k request (inl is) = round-no_put request is
aside_no_put k request (inr is) = commit-is_no_put request is.1

module _ (session : ℕ) (start k : Known) (last : ℕ) (later : IsLaterAside session start k last) where
  puts-none : All (λ m. is_put m.request ≡ false) later.sent_more
  puts-none = All-weaker (λ (m : Sent). IsAside session start m.request) (λ (m : Sent). is_put m.request ≡ false) (λ m aside. aside_no_put start m.request aside.kind) later.sent_more later.sent_aside

  opened-same : (s : Statement) → start.statement ≡ Some s → open_txn k ≡ open_txn start
  opened-same s asked = later.txns.first

  -- what was heard since speaks of no record of the open transaction
  heard-before : (t : Txn) → open_txn start ≡ Some t → (P : Heard → Type 0) → ((h : Heard) → is_about t.id h.request ≡ false → P h → ⊥) → Any P k.heard → Any P start.heard
  heard-before t opened P none any =
      any_front P start.heard later.heard_more (subst (Any P) later.heard any)
      (All-weaker (λ (h : Heard). IsAside session start h.request) (λ h. P h → ⊥) (λ h aside. none h (aside.other t opened)) later.heard_more later.heard_aside)

  shows-none : (t : Txn) (p : Heard → Bool) → ((h : Heard) → is_about t.id h.request ≡ false → p h ≡ false) → (h : Heard) → is_about t.id h.request ≡ false → IsTrue (p h) → ⊥
  shows-none t p none h other is = let no : p h ≡ false = none h other in let both : false ≡ true = sym no ∙ is in cc both

  decided-before : (t : Txn) → IsCommitDecided k t → IsCommitDecided start t
  decided-before t (inl (ts, d)) =
      let opened : open_txn start ≡ Some t = sym later.txns.first ∙ d.opened in
      inl (
        ts,
        record {
          opened = opened;
          asked = sym (ap call_in later.statement) ∙ d.asked;
          why = elim d.why [
            | inl was ↦ inl (heard-before t opened (λ h. IsTrue (shows_committed t.id ts h)) (shows-none t (shows_committed t.id ts) (λ h none. ap (λ b. b && option_map_or (is_committed_at ts) (view_in h.reply) false) none)) was)
            | inr implicit ↦ inr (record {
              staging = heard-before t opened (λ h. IsTrue (shows_staging t.id t.epoch ts h)) (shows-none t (shows_staging t.id t.epoch ts) (λ h none. ap (λ b. b && option_map_or (is_staging_at t.epoch ts) (view_in h.reply) false) none)) implicit.staging;
              proved = implicit.proved;
            })
          ];
        },
      )
  decided-before t (inr (why, d)) =
      let opened : open_txn start ≡ Some t = sym later.txns.first ∙ d.opened in
      inr (
        why,
        record {
          opened = opened;
          asked = sym (ap call_in later.statement) ∙ d.asked;
          heard = heard-before t opened (ShowsAborted t.id why) (λ h other shows. let both : false ≡ true = sym other ∙ shows.about in cc both) d.heard;
        },
      )

  last-before : HasSentLastBeat k → HasSentLastBeat start
  last-before d =
      let P : Sent → Type 0 = λ m. IsTrue (is_heartbeat m.request) in
      let c = cut-front P start.sent_now later.sent_more (d.first ∷ d.between) d.later d.beat (sym later.sent_now ∙ d.whole)
      (All-weaker (λ (m : Sent). IsAside session start m.request) (λ m. P m → ⊥) (λ m aside. no_beat start m.request aside.kind) later.sent_more later.sent_aside) d.beats in
      record { first = d.first; between = d.between; beat = d.beat; later = c.0; whole = c.1; beats = d.beats }

  still-heard : (m : Sent) → IsTrue (is_heard start.heard m) → IsTrue (is_heard k.heard m)
  still-heard m is =
      let p : Heard → Bool = λ h. h.number == m.number in
      subst (λ heard. IsTrue (is_heard heard m)) (sym later.heard) (list_any-append p start.heard later.heard_more ∙ ap (λ b. b || list_any p later.heard_more) is)

  -- and what was heard in the call is so still
  now-heard : (m : Sent) → IsTrue (is_heard start.heard_now m) → IsTrue (is_heard k.heard_now m)
  now-heard m is =
      let p : Heard → Bool = λ h. h.number == m.number in
      subst (λ heard. IsTrue (is_heard heard m)) (sym later.heard_now) (list_any-append p start.heard_now later.heard_more ∙ ap (λ b. b || list_any p later.heard_more) is)

  -- so the next message may go out, where all that went out meanwhile was answered
  pub free_still : (pipelining : Bool) → MayGoInCall pipelining start → All (IsHeardOrPut k.heard_now) k.sent_now → MayGoInCall pipelining k
  free_still pipelining free answered = record {
    undecided = λ t d. free.undecided t (decided-before t d);
    beaten_last = λ d. free.beaten_last (last-before d);
    unsent = λ is own. free.unsent is (own_before start k later.sent_more later.sent later.sent_now puts-none later.statement opened-same own);
    proved = all_from_contains (λ m. IsAwaitedPut k m.request → IsTrue (is_heard k.heard m)) k.sent (λ m there awaited. elim (Contains-append_cases start.sent later.sent_more m (subst (λ ms. Contains ms m) later.sent there)) [
      | inl before ↦
          still-heard m
          (All-contains (λ m. IsAwaitedPut start m.request → IsTrue (is_heard start.heard m)) start.sent m free.proved before
          (awaited_before start k later.sent_more later.sent later.sent_now puts-none later.statement opened-same later.heard_more later.heard later.heard_now m.request awaited))
      | inr since ↦ absurd (awaited_put k m.request (All-contains (λ (m : Sent). is_put m.request ≡ false) later.sent_more m puts-none since) awaited)
    ]);
    heard = all_from_contains (λ m. IsTrue (is_heard k.heard_now m)) k.sent_now (λ m there. elim (Contains-append_cases start.sent_now later.sent_more m (subst (λ ms. Contains ms m) later.sent_now there)) [
      | inl before ↦ now-heard m (All-contains (λ m. IsTrue (is_heard start.heard_now m)) start.sent_now m free.heard before)
      | inr since ↦ elim (All-contains (IsHeardOrPut k.heard_now) k.sent_now m answered there) [
        | inl heard ↦ heard
        | inr put ↦ absurd (let none = All-contains (λ (m : Sent). is_put m.request ≡ false) later.sent_more m puts-none since in let both : false ≡ true = sym none ∙ put in cc both)
      ]
    ]);
  }
