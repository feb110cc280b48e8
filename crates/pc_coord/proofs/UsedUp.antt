-- What comes of the open call once nothing is heard of one of its messages.
use Rattle.std.proofs.Common.{◌≡◌, ◌≢◌, ℕ, true, false, if◌then◌else◌, List, Some, Result, Ok, Err, OnOk, refl, sym, ap, ◌∙◌}
use Rattle.std.proofs.lemmas.Option.{same_Some}
use Rattle.pc_call.specs.declared.over.Over.{Over}
use Rattle.pc_call.specs.declared.purpose.Purpose.{Purpose}
use Rattle.pc_call.specs.declared.purpose.Purpose.TheVariants as purposes
use Rattle.pc_call.specs.Losses.{is_lost_after, rolled_back_unheard}
use Rattle.pc_coord.specs.Coming.{GoesOnBy}
use Rattle.pc_coord.specs.Coordination.{Coordination, finishing}
use Rattle.pc_coord.specs.declared.due.Due.{Due}
use Rattle.pc_coord.specs.declared.due.Due.TheVariants as dues
use Rattle.pc_coord.specs.Knows.{is_under_way}
use Rattle.pc_coord.specs.UsedUp.{ComesLost, answer_lost}
use Rattle.pc_proto.specs.declared.answer.Answer.{Answer}
use Rattle.pc_proto.specs.declared.answer.Answer.TheVariants as answers
use Rattle.pc_proto.specs.declared.why.Why.{Why}
use Rattle.pc_staging.specs.Kept.{is_over}
use Rattle.pc_txn.specs.declared.txn.OpenTxn.{OpenTxn}
use Rattle.pc_wave.specs.declared.message.Message.{Message}
use Rattle.pc_wave.specs.Messages.{step_of}
use Rattle.pc_coord.specs.declared.round.Round.TheVariants as rounds
use Rattle.pc_coord.specs.declared.round.Round.{Round}

-- what a rollback whose abort is not heard is told
pub unheard_answer : (tries : ℕ) (p : Purpose) (x : OpenTxn) (over : Over) → rolled_back_unheard p x ≡ Some over → over.answer ≡ answer_lost tries x p
unheard_answer tries (purposes.Abort why) x over is = sym (ap (λ (o : Over). o.answer) (same_Some _ over is))
unheard_answer tries p x over is = absurd cc

-- what any other call is told
pub other_answer : (tries : ℕ) (p : Purpose) (x : OpenTxn) → ((why : Why) → p ≢ purposes.Abort why) → answer_lost tries x p ≡ (if is_over x.staging then answers.Unavailable tries else answers.Unknown x.id)
other_answer tries (purposes.Abort why) x isnt = absurd (isnt why refl)
other_answer tries (purposes.Beat call reading) x isnt = refl
other_answer tries (purposes.Prove call all) x isnt = refl
other_answer tries purposes.Read x isnt = refl
other_answer tries purposes.Write x isnt = refl
other_answer tries (purposes.Refresh n puts) x isnt = refl
other_answer tries (purposes.Stage n) x isnt = refl
other_answer tries (purposes.Query n holder puts) x isnt = refl
other_answer tries (purposes.Commit n) x isnt = refl
other_answer tries (purposes.LastBeat answer reading) x isnt = refl

-- that nothing can be committed
pub unavailable_answer : (tries : ℕ) (p : Purpose) (x : OpenTxn) → ((why : Why) → p ≢ purposes.Abort why) → is_over x.staging ≡ true → answer_lost tries x p ≡ answers.Unavailable tries
unavailable_answer tries p x isnt over = other_answer tries p x isnt ∙ ap (λ b. if b then answers.Unavailable tries else answers.Unknown x.id) over

-- that something may be
pub unknown_answer : (tries : ℕ) (p : Purpose) (x : OpenTxn) → ((why : Why) → p ≢ purposes.Abort why) → is_over x.staging ≡ false → answer_lost tries x p ≡ answers.Unknown x.id
unknown_answer tries p x isnt open_still = other_answer tries p x isnt ∙ ap (λ b. if b then answers.Unavailable tries else answers.Unknown x.id) open_still

-- what ends the call's transaction is told
pub finish_answer : {T E : Type 0} (r : Result T E) (c new : Coordination) (over : Over) (answer : Answer) → OnOk r (new ≡ finishing over c) → over.answer ≡ answer → OnOk r (new.due ≡ dues.Tell answer)
finish_answer (Ok value) c new over answer made is = ap (λ (n : Coordination). n.due) made ∙ ap dues.Tell is
finish_answer (Err error) c new over answer made is = tt

-- the tries of one are used up
pub lost_ends : {T E : Type 0} (r : Result T E) (tries : ℕ) (x : OpenTxn) (p : Purpose) (ms : List Message) (due : Due) → is_lost_after tries ms ≡ true → OnOk r (due ≡ dues.Tell (answer_lost tries x p)) → OnOk r (ComesLost tries x p ms due)
lost_ends (Ok value) tries x p ms due used told = record { ends = λ is. told; on = λ isnt on. let e : true ≡ false = sym used ∙ isnt in absurd cc }
lost_ends (Err error) tries x p ms due used told = tt

-- those of none are, and no more is due
pub lost_over : {T E : Type 0} (r : Result T E) (tries : ℕ) (x : OpenTxn) (p : Purpose) (ms : List Message) (due : Due) → is_lost_after tries ms ≡ false → (is_under_way (step_of ms) → ⊥) → OnOk r (ComesLost tries x p ms due)
lost_over (Ok value) tries x p ms due left over = record { ends = λ is. let e : false ≡ true = sym left ∙ is in absurd cc; on = λ isnt on. absurd (over on) }
lost_over (Err error) tries x p ms due left over = tt

-- those of none are, and the call goes on
pub lost_on : (tries : ℕ) (x : OpenTxn) (p : Purpose) (ms : List Message) (due : Due) → is_lost_after tries ms ≡ false → GoesOnBy ms due → ComesLost tries x p ms due
lost_on tries x p ms due left on = record { ends = λ is. let e : false ≡ true = sym left ∙ is in absurd cc; on = λ isnt under. on }

-- so many tries
abbrev faults_of : Round → ℕ
faults_of (rounds.Lost n) = n
faults_of _ = 0

pub same_faults : (n m : ℕ) → rounds.Lost n ≡ rounds.Lost m → n ≡ m
same_faults n m is = ap faults_of is
