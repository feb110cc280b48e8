-- What became of each stage that was sent is known, while the transaction goes on; so a reply that shows its record staging shows one that is known.
use Rattle.std.proofs.Common.{◌≡◌, ℕ, ◌≤◌, ◌⊎◌, inl, inr, List, [], ◌∷◌, ◌++◌, refl, sym, ◌∙◌, subst, arith, Any, Contains, IsTrue}
use Rattle.std.proofs.lemmas.List.Elements.{All-append, All-cons, All-nil}
use Rattle.pc_base.specs.declared.transaction.TxnId.{TxnId}
use Rattle.pc_lists.proofs.Anywhere.{any_kept, any_of}
use Rattle.pc_proto.specs.declared.request.Request.{Request}
use Rattle.pc_proto.specs.declared.request.Request.TheVariants as requests
use Rattle.pc_staging.proofs.Fates.{each_stage-more}
use Rattle.pc_txn.proofs.Above.{StaysUp, any_above}
use Rattle.pc_txn.specs.Standing.{HasMovedOn, IsAccountedFor, IsFateKnown, StandsAbove}
use Rattle.pc_wave.specs.Shown.{IsStageAt, ShowsSentStage}
use Rattle.pc_world.specs.Known.{Known}
use Rattle.pc_world.specs.Known.Traffic.{Heard, Sent}
use Rattle.pc_world.specs.Known.Transactions.{Txn}
use Rattle.pc_world.specs.StageFate.{EachStage, IsStageWith, OnStage, RefutesRecord, SentStage, SomeStage}
use Rattle.pc_world.specs.Tell.End.{shows_staging}

-- one that is kept is kept at its timestamp
pub kept_at : (stages : List SentStage) (s : SentStage) → Contains stages s → Any (λ y. y.ts ≡ s.ts) stages
kept_at stages s (n, inside, is) = (n, s, inside, is, refl)

-- one message that is no stage
pub one_message : (id : TxnId) (m : Sent) → ((P : SentStage → Type 0) → OnStage id P m.request) → (P : SentStage → Type 0) → EachStage id (m ∷ []) P
one_message id m on P = All-cons (λ (m : Sent). OnStage id P m.request) m [] (on P) (All-nil (λ (m : Sent). OnStage id P m.request))

pub no_message : (id : TxnId) (P : SentStage → Type 0) → EachStage id [] P
no_message id P = All-nil (λ (m : Sent). OnStage id P m.request)

module _ (k now : Known) (sent_more : List Sent) (heard_more : List Heard) (more : HasMovedOn k now sent_more heard_more) (t after : Txn) (epoch_is : after.epoch ≡ t.epoch) (stages later : List SentStage) where
  module _ (above : (ts : ℕ) → Any (StandsAbove k.heard t ts) t.writes → Any (StandsAbove (k.heard ++ heard_more) after ts) after.writes)
      (kept : (s : SentStage) → Contains stages s → IsFateKnown later (k.heard ++ heard_more) after s) where
    fate_on : (s : SentStage) → IsFateKnown stages k.heard t s → IsFateKnown later (k.heard ++ heard_more) after s
    fate_on s (inl there) = kept s there
    fate_on s (inr (inl stands)) = inr (inl (above s.ts stands))
    fate_on s (inr (inr past)) = inr (inr (any_kept (RefutesRecord s) k.heard heard_more past))

    one_on : (s : SentStage) → IsAccountedFor stages k.heard t s → IsAccountedFor later (k.heard ++ heard_more) after s
    one_on s a = record {
      no_later = let low = a.no_later in omega (arith, low, epoch_is);
      fate = λ same. fate_on s (a.fate (same ∙ epoch_is));
    }

    -- where it is known of what was sent before, and of what was sent since
    pub accounted_on : EachStage t.id k.sent (IsAccountedFor stages k.heard t) → EachStage t.id sent_more (IsAccountedFor later (k.heard ++ heard_more) after)
        → EachStage t.id now.sent (IsAccountedFor later now.heard after)
    accounted_on before new =
        let P : SentStage → Type 0 = IsAccountedFor later (k.heard ++ heard_more) after in
        subst (λ hs. EachStage t.id now.sent (IsAccountedFor later hs after)) (sym more.heard)
        (subst (λ ms. EachStage t.id ms P) (sym more.sent)
        (All-append (λ m. OnStage t.id P m.request) k.sent sent_more (each_stage-more t.id (IsAccountedFor stages k.heard t) P one_on k.sent before) new))

  -- where nothing was written or staged since
  pub accounted_up : StaysUp t after → after.writes ≡ t.writes → later ≡ stages → ((P : SentStage → Type 0) → EachStage t.id sent_more P)
      → EachStage t.id k.sent (IsAccountedFor stages k.heard t) → EachStage t.id now.sent (IsAccountedFor later now.heard after)
  accounted_up stays same all none before =
      accounted_on
      (λ ts above. subst (λ ws. Any (StandsAbove (k.heard ++ heard_more) after ts) ws) (sym same) (any_above k.heard heard_more t after stays ts t.writes above))
      (λ s there. inl (subst (λ ss. Contains ss s) (sym all) there)) before (none (IsAccountedFor later (k.heard ++ heard_more) after))

module _ (id : TxnId) (P Q : SentStage → Type 0) where
  both_of : (request : Request) → OnStage id P request → IsStageWith id Q request → (s : SentStage) × P s × Q s
  both_of (requests.Stage meta ts now writes locks) on (same, q) = (record { meta = meta; ts = ts; now = now; writes = writes; locks = locks }, on same, q)
  both_of request on with = absurd with

  -- some stage is so where each is that
  pub stage_among : (sent : List Sent) → EachStage id sent P → SomeStage id sent Q → (s : SentStage) × P s × Q s
  stage_among sent each some =
      let f = any_of (λ (m : Sent). OnStage id P m.request) (λ (m : Sent). IsStageWith id Q m.request) sent each some in
      both_of f.0.request f.1 f.2

module _ (k : Known) (stages : List SentStage) (t : Txn) (accounted : EachStage t.id k.sent (IsAccountedFor stages k.heard t)) (h : Heard) (shown : ShowsSentStage k t.id h) where
  -- a record that is shown staging is of no later epoch
  pub shown_epoch : (epoch ts : ℕ) → IsTrue (shows_staging t.id epoch ts h) → epoch ≤ t.epoch
  shown_epoch epoch ts shows =
      let f = stage_among t.id (IsAccountedFor stages k.heard t) (IsStageAt k.heard epoch ts) k.sent accounted (shown epoch ts shows) in
      let low = f.1.no_later in
      let same = f.2.epoch_is in
      omega (arith, low, same)

  -- and in this epoch of a stage that is kept, or above which some write stands alone
  pub shown_known : (ts : ℕ) → IsTrue (shows_staging t.id t.epoch ts h) → Any (λ s. s.ts ≡ ts) stages ⊎ Any (StandsAbove k.heard t ts) t.writes
  shown_known ts shows =
      let f = stage_among t.id (IsAccountedFor stages k.heard t) (IsStageAt k.heard t.epoch ts) k.sent accounted (shown t.epoch ts shows) in
      by f.0 f.2 (f.1.fate f.2.epoch_is)
    where
      by : (s : SentStage) → IsStageAt k.heard t.epoch ts s → IsFateKnown stages k.heard t s → Any (λ s. s.ts ≡ ts) stages ⊎ Any (StandsAbove k.heard t ts) t.writes
      by s at (inl (n, inside, is)) = inl (n, s, inside, is, at.ts_is)
      by s at (inr (inl above)) = inr (subst (λ n. Any (StandsAbove k.heard t n) t.writes) at.ts_is above)
      by s at (inr (inr past)) = absurd (at.unrefused past)
