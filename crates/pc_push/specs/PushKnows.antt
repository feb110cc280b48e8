-- How a conflict round stands beside what its actor knows.
use Rattle.std.specs.Prelude.{◌≡◌, ℕ, ◌+◌, ◌≤◌, ◌⊎◌, false, List, All, ⊤}
use Rattle.pc_base.specs.declared.actor.ActorId.{ActorId}
use Rattle.pc_proto.specs.declared.fate.Fate.{Fate}
use Rattle.pc_proto.specs.declared.reply.Reply.TheVariants as replies
use Rattle.pc_proto.specs.declared.request.Request.{Request}
use Rattle.pc_proto.specs.declared.view.View.{View}
use Rattle.pc_proto.specs.declared.view.View.TheVariants as views
use Rattle.pc_proto.specs.Requests.{Recovers}
use Rattle.pc_proto.specs.Stamps.{fate_stamps, goal_stamps}
use Rattle.pc_proto.specs.Views.{is_final_view}
use Rattle.pc_push.specs.declared.progress.Progress.{Progress}
use Rattle.pc_push.specs.declared.progress.Progress.TheVariants as progress
use Rattle.pc_push.specs.Pushing.{Pushing, holder_resolve, push_of}
use Rattle.pc_proto.specs.declared.machine.MachineNext.{MachineNext}
use Rattle.pc_proto.specs.declared.machine.MachineNext.TheVariants as nexts
use Rattle.pc_world.specs.Exchange.{HeardSince, IsAllowed, IsLater}
use Rattle.pc_world.specs.Known.{Known}
use Rattle.pc_world.specs.Send.Push.{MaySendPush}
use Rattle.pc_world.specs.Send.Settling.{MaySendResolve}

-- The holder may be pushed now: an intent of it stood in the way in the open call, and by, level, reading and goal are the actor's.
pub record MayPush (actor : ActorId) (k : Known) (m : Pushing) : Type 0 where
  pub row : MaySendPush actor k m.holder m.by m.level m.reading m.goal
  pub stamps : All (λ ts. ts ≤ k.top + 1) (goal_stamps m.goal)

-- The holder's intent may be settled with this fate now.
pub record MaySettle (k : Known) (m : Pushing) (fate : Fate) : Type 0 where
  pub row : MaySendResolve k m.holder.id fate
  pub stamps : All (λ ts. ts ≤ k.top + 1) (fate_stamps fate)

-- The push was heard to be refused.
pub record WasPushRefused (start k : Known) (m : Pushing) : Type 0 where
  pub view : View
  pub heard : HeardSince start k (push_of m) (replies.Refused view)

-- The push was heard to meet this staging record.
pub record HasMetStaging (start k : Known) (m : Pushing) (view : View) : Type 0 where
  pub epoch : ℕ
  pub ts : ℕ
  pub writes : List (List ℕ × ℕ)
  pub is : view ≡ views.Staging epoch ts writes
  pub heard : HeardSince start k (push_of m) (replies.Unsure view)

-- A reply to the resolve of the holder's intent was heard.
pub record WasHolderResolved (start k : Known) (m : Pushing) : Type 0 where
  pub fate : Fate
  pub heard : HeardSince start k (holder_resolve m fate) replies.Resolved

-- The push met a staging record, and its recovery left the holder undecided.
pub record WasLeft (start k : Known) (m : Pushing) : Type 0 where
  pub met : View
  pub staging : HasMetStaging start k m met
  pub request : Request
  pub recovers : Recovers m.holder.id request
  pub view : View
  pub heard : HeardSince start k request (replies.Status view)
  pub unsettled : is_final_view view ≡ false

-- The intent was settled, or is left to whoever holds it.
abbrev pub IsSettledOrLeft : Known → Known → Pushing → Type 0
IsSettledOrLeft start k m = WasHolderResolved start k m ⊎ WasLeft start k m

abbrev pub StandsAt : Known → Known → Pushing → Progress → Type 0
StandsAt start k m progress.Push = ⊤
StandsAt start k m progress.Refused = WasPushRefused start k m
StandsAt start k m (progress.Unsure view) = HasMetStaging start k m view
StandsAt start k m (progress.Resolve fate) = MaySettle k m fate
StandsAt start k m progress.Over = IsSettledOrLeft start k m

-- The machine stands by what its actor knew when it was made, and by what it knows now.
pub record PushKnows (actor : ActorId) (start k : Known) (m : Pushing) : Type 0 where
  pub may : MayPush actor start m
  pub since : IsLater start k
  pub stands : StandsAt start k m m.progress

-- What comes next is allowed: a request may be sent, a push that is given as refused was, a record that is given was met staging,
-- and the end comes only once the intent was settled or the holder left undecided.
abbrev pub RoundMayCome : List (List ℕ) → ActorId → Known → Known → Pushing → MachineNext → Type 0
RoundMayCome splits actor start k m (nexts.Send request) = IsAllowed splits actor k request
RoundMayCome splits actor start k m (nexts.Refused id) = (id ≡ m.holder.id) × WasPushRefused start k m
RoundMayCome splits actor start k m (nexts.Settled view) = HasMetStaging start k m view
RoundMayCome splits actor start k m nexts.Finished = IsSettledOrLeft start k m
RoundMayCome splits actor start k m (nexts.Changed view) = ⊥

abbrev pub AsksAt : Progress → Pushing → Request → Type 0
AsksAt progress.Push m request = request ≡ push_of m
AsksAt (progress.Unsure view) m request = Recovers m.holder.id request
AsksAt (progress.Resolve fate) m request = request ≡ holder_resolve m fate
AsksAt progress.Refused m request = ⊥
AsksAt progress.Over m request = ⊥

-- The machine waits for the reply to this request: to the one that is due, or to a recovery of the record that its push met.
abbrev pub Asks : Pushing → Request → Type 0
Asks m request = AsksAt m.progress m request
