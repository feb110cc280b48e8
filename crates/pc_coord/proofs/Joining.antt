-- What waits did so before, and what joins a wave goes out beside a message that is to be sent.
use Rattle.std.proofs.Common.{◌<◌, ◌≡◌, ℕ, ◌==◌, Bool, true, false, ◌||◌, List, [], ◌∷◌, Result, Ok, Err, OnOk, refl, sym, ap, ◌∙◌, subst, All}
use Rattle.std.specs.List.{list_any}
use Rattle.std.proofs.lemmas.Bool.{eqb-true}
use Rattle.std.proofs.lemmas.List.Elements.{All-contains, All-head, All-tail}
use Rattle.std.proofs.lemmas.Option.{same_Some}
use Rattle.pc_base.specs.declared.limits.TheConstants.{MOST_CONFLICTS}
use Rattle.pc_call.specs.declared.call.OpenCall.{OpenCall}
use Rattle.pc_call.specs.declared.later.LaterPut.{LaterPut}
use Rattle.pc_call.specs.declared.over.Over.{Over}
use Rattle.pc_call.specs.declared.purpose.Purpose.{Purpose}
use Rattle.pc_call.specs.Outbox.{IsApartFrom, OutboxStands, has_put, has_waited}
use Rattle.pc_call.specs.Serving.{InCall}
use Rattle.pc_call.specs.Setting.{Setting}
use Rattle.pc_coord.proofs.Aside.{awaited_in}
use Rattle.pc_coord.proofs.Fresh.{unsent_idle}
use Rattle.pc_coord.proofs.Outbox.{has_own}
use Rattle.pc_coord.specs.Aside.{KeepsAside}
use Rattle.pc_coord.specs.Coming.{GoesOnBy, IsIdle, IsLeftOf, JoinsBeside}
use Rattle.pc_coord.specs.Coordination.{Coordination, SendsNoMore, awaits_number, finishing}
use Rattle.pc_coord.specs.declared.due.Due.{Due}
use Rattle.pc_coord.specs.declared.due.Due.TheVariants as dues
use Rattle.pc_proto.specs.declared.answer.Answer.{Answer}
use Rattle.pc_txn.specs.declared.txn.OpenTxn.{OpenTxn}
use Rattle.pc_wave.proofs.Hearing.{awaits_as}
use Rattle.pc_wave.specs.declared.message.Message.{Message}
use Rattle.pc_wave.specs.Messages.{is_to_send, wave_awaits}
use Rattle.pc_wave.specs.Standing.{IsAsFar, IsOnItsWay, MessageStands}
use Rattle.pc_world.specs.Known.{Known}
use Rattle.pc_world.specs.Known.Traffic.{request_sent}
use Rattle.pc_world.specs.Known.Transactions.{Txn}

-- ---- no reply is waited for

pub idle_joins : (later : List LaterPut) (due : Due) → IsIdle due → JoinsBeside later due
idle_joins later due idle n was waits = let e : false ≡ true = sym (idle n) ∙ waits in absurd cc

pub joins_ok : {T E : Type 0} (r : Result T E) (later : List LaterPut) (due : Due) → OnOk r (IsIdle due) → OnOk r (JoinsBeside later due)
joins_ok (Ok value) later due idle = idle_joins later due idle
joins_ok (Err error) later due idle = tt

pub told_idle : (new : Coordination) (answer : Answer) → new.due ≡ dues.Tell answer → IsIdle new.due
told_idle new answer made n = ap (awaits_number n) made

pub told_idle_ok : {T E : Type 0} (r : Result T E) (new : Coordination) (answer : Answer) → OnOk r (new.due ≡ dues.Tell answer) → OnOk r (IsIdle new.due)
told_idle_ok (Ok value) new answer made = told_idle new answer made
told_idle_ok (Err error) new answer made = tt

pub nothing_idle : (new : Coordination) → new.due ≡ dues.Nothing → IsIdle new.due
nothing_idle new made n = ap (awaits_number n) made

pub finish_idle : {T E : Type 0} (r : Result T E) (c new : Coordination) (over : Over) → OnOk r (new ≡ finishing over c) → OnOk r (IsIdle new.due)
finish_idle (Ok value) c new over made = λ n. ap (λ (c : Coordination). awaits_number n c.due) made
finish_idle (Err error) c new over made = tt

-- as all messages of the call are to be sent
pub unsent_call_idle : (new : Coordination) (call : OpenCall) → new.due ≡ dues.Call call → All (λ m. is_to_send m ≡ true) call.wave → IsIdle new.due
unsent_call_idle new call made unsent n = ap (awaits_number n) made ∙ unsent_idle n call.wave unsent

pub call_idle : (new : Coordination) (call : OpenCall) → new.due ≡ dues.Call call → ((n : ℕ) → wave_awaits n call.wave ≡ false) → IsIdle new.due
call_idle new call made idle n = ap (awaits_number n) made ∙ idle n

-- ---- some message is to be sent

none_to_send : (ms : List Message) → list_any is_to_send ms ≡ true → All (λ m. is_to_send m ≡ false) ms → ⊥
none_to_send [] some none = cc
none_to_send (m ∷ ms) some none = by (λ e. none_to_send ms e (All-tail (λ (m : Message). is_to_send m ≡ false) m ms none)) (is_to_send m) refl some
  where
    by : (list_any is_to_send ms ≡ true → ⊥) → (b : Bool) → is_to_send m ≡ b → (b || list_any is_to_send ms) ≡ true → ⊥
    by rest true is e = let f : false ≡ true = sym (All-head (λ (m : Message). is_to_send m ≡ false) m ms none) ∙ is in cc
    by rest false is e = rest e

pub sends_joins : (new : Coordination) (later : List LaterPut) (call : OpenCall) → new.due ≡ dues.Call call → list_any is_to_send call.wave ≡ true → JoinsBeside later new.due
sends_joins new later call made some n was waits = λ none. none_to_send call.wave some (subst SendsNoMore made none)

pub sends_some : (ms : List Message) → list_any is_to_send ms ≡ true → ms ≡ [] → ⊥
sends_some ms some none = let e : false ≡ true = sym (ap (list_any is_to_send) none) ∙ some in cc

-- ---- no message of a wave is one that waits aside

module _ (set : Setting) (k : Known) (x : OpenTxn) (p : Purpose) (ms : List Message) (w : InCall set k x p ms) where
  none_waited : (t : Txn) (later : List LaterPut) → OutboxStands k t x later → All (IsApartFrom ms) later → (n : ℕ) → has_waited n later ≡ true → wave_awaits n ms ≡ true → ⊥
  none_waited t [] o apart n was waits = cc
  none_waited t (put ∷ puts) o apart n was waits = by (λ e. none_waited t puts o.2 (All-tail (IsApartFrom ms) put puts apart) n e waits) (put.number == n) refl was
    where
      by : (has_waited n puts ≡ true → ⊥) → (b : Bool) → (put.number == n) ≡ b → (b || has_waited n puts) ≡ true → ⊥
      by rest true here e =
          let q = awaited_in n ms waits in
          let s : MessageStands set.course k q.0 = All-contains (MessageStands set.course k) ms q.0 w.wave.stand q.1 in
          let far : IsOnItsWay set.course k n q.0.request × (q.0.conflicts < MOST_CONFLICTS) = subst (λ p. IsAsFar set.course k q.0.request q.0.conflicts p) (awaits_as n q.0.progress q.2) s.as_far in
          let same : put.request ≡ q.0.request = same_Some put.request q.0.request (sym o.0.sent ∙ (ap (λ n. request_sent n k.sent) (eqb-true put.number n here) ∙ far.0.out.said)) in
          let mine : has_put o.0.w.seq put.request ≡ true = has_own x o.0.anchor o.0.ts o.0.w put.request o.0.said in
          let none : has_put o.0.w.seq q.0.request ≡ false = All-contains (λ m. (seq : ℕ) → has_put seq put.request ≡ true → has_put seq m.request ≡ false) ms q.0 (All-head (IsApartFrom ms) put puts apart) q.1 o.0.w.seq mine in
          let f : true ≡ false = sym mine ∙ (ap (has_put o.0.w.seq) same ∙ none) in
          cc
      by rest false isnt e = rest e

  pub same_joins : (b : Bool) (later : List LaterPut) → KeepsAside set.course.loses b k x p later ms → (new : Coordination) (call : OpenCall) → new.due ≡ dues.Call call → call.wave ≡ ms → JoinsBeside later new.due
  same_joins b later a new call made same n was waits = absurd (none_waited a.outbox.has.t later a.outbox.has.stands a.outbox.apart n was (sym (ap (awaits_number n) made ∙ ap (wave_awaits n) same) ∙ waits))

-- ---- what waits then

pub same_left : (before after : List LaterPut) → after ≡ before → IsLeftOf before after
same_left before after same n was = subst (λ l. has_waited n l ≡ true) same was

pub finish_left : {T E : Type 0} (r : Result T E) (c new : Coordination) (over : Over) (before : List LaterPut) → OnOk r (new ≡ finishing over c) → OnOk r (IsLeftOf before new.later)
finish_left (Ok value) c new over before made = λ n was. let e : false ≡ true = subst (λ l. has_waited n l ≡ true) (ap (λ (c : Coordination). c.later) made) was in absurd cc
finish_left (Err error) c new over before made = tt

pub taken_left : (before after : List LaterPut) (new : Coordination) → new.later ≡ after → ((n : ℕ) → has_waited n after ≡ true → has_waited n before ≡ true) → IsLeftOf before new.later
taken_left before after new made left n was = left n (subst (λ l. has_waited n l ≡ true) made was)

pub left_each : {T E : Type 0} (r : Result T E) (before after : List LaterPut) → OnOk r (IsLeftOf before after) → (n : ℕ) → OnOk r (has_waited n after ≡ true → has_waited n before ≡ true)
left_each (Ok value) before after left n = left n
left_each (Err error) before after left n = tt

pub idle_each : {T E : Type 0} (r : Result T E) (due : Due) → OnOk r (IsIdle due) → (n : ℕ) → OnOk r (awaits_number n due ≡ false)
idle_each (Ok value) due idle n = idle n
idle_each (Err error) due idle n = tt

pub joins_each : {T E : Type 0} (r : Result T E) (later : List LaterPut) (due : Due) → OnOk r (JoinsBeside later due) → (n : ℕ) → has_waited n later ≡ true → OnOk r (awaits_number n due ≡ true → SendsNoMore due → ⊥)
joins_each (Ok value) later due joins n was = joins n was
joins_each (Err error) later due joins n was = tt

-- ---- the same messages go on

pub call_goes : (new : Coordination) (call : OpenCall) (ms : List Message) → new.due ≡ dues.Call call → call.wave ≡ ms → GoesOnBy ms new.due
call_goes new call ms made same = subst (GoesOnBy ms) (sym made) same

pub goes_as : {T E : Type 0} (r : Result T E) (ms ms2 : List Message) (due : Due) → ms ≡ ms2 → OnOk r (GoesOnBy ms due) → OnOk r (GoesOnBy ms2 due)
goes_as r ms ms2 due same goes = subst (λ ms. OnOk r (GoesOnBy ms due)) same goes

pub no_wait : (n : ℕ) (ms : List Message) → wave_awaits n ms ≡ true → wave_awaits n ms ≡ false → ⊥
no_wait n ms waits idle = let e : false ≡ true = sym idle ∙ waits in cc

-- ---- a call is over

pub nothing_ends : (new : Coordination) (next : OpenCall) → new.due ≡ dues.Nothing → new.due ≡ dues.Call next → ⊥
nothing_ends new next made is = let e : dues.Nothing ≡ dues.Call next = sym made ∙ is in cc

pub told_ends_ok : {T E : Type 0} (r : Result T E) (new : Coordination) (answer : Answer) (next : OpenCall) → OnOk r (new.due ≡ dues.Tell answer) → OnOk r (new.due ≡ dues.Call next → ⊥)
told_ends_ok (Ok value) new answer next made = λ is. let e : dues.Tell answer ≡ dues.Call next = sym made ∙ is in cc
told_ends_ok (Err error) new answer next made = tt

pub finish_ends : {T E : Type 0} (r : Result T E) (c new : Coordination) (over : Over) (next : OpenCall) → OnOk r (new ≡ finishing over c) → OnOk r (new.due ≡ dues.Call next → ⊥)
finish_ends (Ok value) c new over next made = λ is. let e : dues.Tell over.answer ≡ dues.Call next = sym (ap (λ (c : Coordination). c.due) made) ∙ is in cc
finish_ends (Err error) c new over next made = tt
