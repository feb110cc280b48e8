-- No message of a round meets an intent, so none met its eighth.
use Rattle.std.proofs.Common.{◌≡◌, ℕ, true, false, inl, inr, Contains, List, [], ◌∷◌, refl, sym, subst, arith, None}
use Rattle.pc_base.specs.declared.limits.TheConstants.{MOST_CONFLICTS}
use Rattle.pc_base.specs.declared.transaction.TxnId.{TxnId}
use Rattle.pc_base.specs.declared.transaction.Who.{Who}
use Rattle.pc_lists.proofs.Lists.{contains_head, contains_tail}
use Rattle.pc_proto.specs.declared.fate.Fate.{Fate}
use Rattle.pc_proto.specs.declared.fate.Finding.{Finding}
use Rattle.pc_proto.specs.declared.reply.Reply.{Reply}
use Rattle.pc_proto.specs.declared.reply.Reply.TheVariants as replies
use Rattle.pc_proto.specs.declared.request.Request.{Request}
use Rattle.pc_proto.specs.declared.request.Request.TheVariants as requests
use Rattle.pc_proto.specs.Replies.{is_conflict}
use Rattle.pc_push.specs.Pushing.{Pushing, holder_resolve, push_of}
use Rattle.pc_wave.proofs.Lists.{at_least-fewer}
use Rattle.pc_world.specs.Answering.{IsPushReply, IsQueryReply, IsRecoverReply, IsResolved, MayAnswer}
use Rattle.pc_world.specs.Counting.{AtLeast}
use Rattle.pc_follows.specs.Eighth.{MetEighth}
use Rattle.pc_world.specs.Known.{Known}
use Rattle.pc_world.specs.Known.Traffic.{Heard}
use Rattle.pc_world.specs.SameRequest.{IsSamePut, IsSameRequest}
use Rattle.pc_world.specs.Tell.Refusal.{IsConflictOf}
use Rattle.pc_reads.specs.Replies.{unrefreshed_by}

none-so : {X : Type 0} (P : X → Type 0) (xs : List X) → ((x : X) → Contains xs x → P x → ⊥) → AtLeast P 1 xs → ⊥
none-so P [] none at = at
none-so P (x ∷ xs) none (inl (is, rest)) = none x (contains_head x xs) is
none-so P (x ∷ xs) none (inr rest) = none-so P xs (λ y there. none y (contains_tail x xs y there)) rest

-- ---- what a round is answered

pub plain_push : (reply : Reply) → IsPushReply reply → is_conflict reply ≡ false
plain_push (replies.Status view) may = refl
plain_push (replies.Refused view) may = refl
plain_push (replies.Unsure view) may = refl
plain_push reply may = absurd may

pub plain_query : (reply : Reply) → IsQueryReply reply → is_conflict reply ≡ false
plain_query replies.Found may = refl
plain_query replies.Missing may = refl
plain_query reply may = absurd may

pub plain_recover : (reply : Reply) → IsRecoverReply reply → is_conflict reply ≡ false
plain_recover (replies.Status view) may = refl
plain_recover reply may = absurd may

pub plain_resolve : (reply : Reply) → IsResolved reply → is_conflict reply ≡ false
plain_resolve replies.Resolved may = refl
plain_resolve reply may = absurd may

-- nor does it meet a write
pub held_query : (reply : Reply) → IsQueryReply reply → unrefreshed_by reply ≡ None
held_query replies.Found may = refl
held_query replies.Missing may = refl
held_query reply may = absurd may

pub held_recover : (reply : Reply) → IsRecoverReply reply → unrefreshed_by reply ≡ None
held_recover (replies.Status view) may = refl
held_recover reply may = absurd may

pub held_resolve : (reply : Reply) → IsResolved reply → unrefreshed_by reply ≡ None
held_resolve replies.Resolved may = refl
held_resolve reply may = absurd may

module _ (k : Known) (kinds : (h : Heard) → Contains k.heard_now h → MayAnswer h.request h.reply) where
  unmet : (request : Request) → ((reply : Reply) → MayAnswer request reply → is_conflict reply ≡ false) → ((other : Request) → IsSamePut request other → ⊥) → MetEighth k request → ⊥
  unmet request plain no_put eight =
      none-so (IsConflictOf request) k.heard_now (λ h there met. by h there met met.same)
      (at_least-fewer (IsConflictOf request) 1 MOST_CONFLICTS k.heard_now (omega arith) eight)
    where
      by : (h : Heard) → Contains k.heard_now h → IsConflictOf request h → IsSameRequest request h.request → ⊥
      by h there met (inl same) = let no : is_conflict h.reply ≡ false = plain h.reply (subst (λ q. MayAnswer q h.reply) (sym same) (kinds h there)) in let yes : is_conflict h.reply ≡ true = met.conflict in cc
      by h there met (inr put) = no_put h.request put

  pub push_unmet : (m : Pushing) → MetEighth k (push_of m) → ⊥
  push_unmet m = unmet (push_of m) plain_push (λ other put. put)

  pub query_unmet : (id : TxnId) (epoch seq ts : ℕ) (key : List ℕ) (by : Who) → MetEighth k (requests.Query id epoch seq ts key by) → ⊥
  query_unmet id epoch seq ts key by = unmet (requests.Query id epoch seq ts key by) plain_query (λ other put. put)

  pub recover_unmet : (id : TxnId) (epoch ts : ℕ) (anchor : List ℕ) (finding : Finding) → MetEighth k (requests.Recover id epoch ts anchor finding) → ⊥
  recover_unmet id epoch ts anchor finding = unmet (requests.Recover id epoch ts anchor finding) plain_recover (λ other put. put)

  pub resolve_unmet : (m : Pushing) (fate : Fate) → MetEighth k (holder_resolve m fate) → ⊥
  resolve_unmet m fate = unmet (holder_resolve m fate) plain_resolve (λ other put. put)
