-- What the rule of rounds says of a call's messages, kind by kind.
use Rattle.std.proofs.Common.{◌≡◌, ℕ, inl, inr, List, [], Some, sym, ap, ◌∙◌, arith, subst, slice_get}
use Rattle.std.proofs.lemmas.Option.{none-some, same_Some}
use Rattle.pc_base.specs.declared.transaction.TxnId.{TxnId}
use Rattle.pc_follows.specs.Rounds.{IsConflictAt, IsInItsRound, IsItself, conflicts_now}
use Rattle.pc_follows_laws.specs.CallRounds.{PushesMeetConflicts, ResolvesMeetConflicts, RoundsEnd, RoundsMeetConflicts}
use Rattle.pc_proto.specs.declared.meta.TxnMeta.{TxnMeta}
use Rattle.pc_proto.specs.declared.request.Request.{Request}
use Rattle.pc_proto.specs.declared.request.Request.TheVariants as requests
use Rattle.pc_proto.specs.Requests.{round_of}
use Rattle.pc_world.specs.Known.{Known}

pub pushes_meet_conflicts : PushesMeetConflicts
pushes_meet_conflicts k s number range holder by level now goal asked keeps = let begins = keeps s asked in (begins.key, begins.next)

pub resolves_meet_conflicts : ResolvesMeetConflicts
resolves_meet_conflicts k s number range id key fate asked keeps =
    let round = (keeps s asked).0 in record { place = round.place; holder = round.holder; met = round.of; whose = round.whose }

none_met : (k : Known) (place : ℕ) (holder : TxnMeta) (key : List ℕ) → conflicts_now k ≡ [] → IsConflictAt k place holder key → ⊥
none_met k place holder key none at = none-some at.conflict (sym (ap (λ l. slice_get l place) none) ∙ at.placed)

no_round : (k : Known) (request : Request) (id : TxnId) → conflicts_now k ≡ [] → round_of request ≡ Some id → (IsItself k id → ⊥) → IsInItsRound k request → ⊥
no_round k (requests.Push holder by level now goal) id none is other begins = none_met k _ holder begins.key none begins.next
no_round k (requests.Resolve of key fate) id none is other round = none_met k round.0.place round.0.holder key none round.0.of
no_round k (requests.Query of epoch seq ts key by) id none is other (inl own) = other (subst (IsItself k) (same_Some of id is) own)
no_round k (requests.Query of epoch seq ts key by) id none is other (inr round) = none_met k round.1.place round.1.holder round.0 none round.1.of
no_round k (requests.Recover of epoch ts anchor finding) id none is other round = none_met k round.1.place round.1.holder round.0 none round.1.of
no_round k (requests.Get _ _ _ _ _) id none is other round = none-some id is
no_round k (requests.Scan _ _ _ _ _) id none is other round = none-some id is
no_round k (requests.Put _ _ _ _ _) id none is other round = none-some id is
no_round k (requests.Refresh _ _ _ _) id none is other round = none-some id is
no_round k (requests.Beat _ _ _) id none is other round = none-some id is
no_round k (requests.Stage _ _ _ _ _) id none is other round = none-some id is
no_round k (requests.Commit _ _ _) id none is other round = none-some id is
no_round k (requests.Abort _ _ _) id none is other round = none-some id is
no_round k (requests.Remove _ _) id none is other round = none-some id is
no_round k requests.Records id none is other round = none-some id is

pub rounds_meet_conflicts : RoundsMeetConflicts
rounds_meet_conflicts k s number range request id asked none is other keeps = no_round k request id none is other (keeps s asked)

pub rounds_end : RoundsEnd
rounds_end k s number range id key fate asked over keeps = let round = (keeps s asked).0 in round.goes_on (over round.place (omega (arith, round.last)))
