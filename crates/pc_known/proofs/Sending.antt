-- How what is kept of the messages stands to what the actor knows after one more entry.
use Rattle.std.proofs.Common.{◌≡◌, ℕ, suc, ◌+◌, ◌-◌, ◌≤◌, ◌==◌, ◌++◌, Bool, true, false, cond, List, [], ◌∷◌, Option, None, Some, All, find, drop, slice_set, length, refl, ap, sym, ◌∙◌, subst, arith}
use Rattle.std.proofs.lemmas.Bool.{eqb-true}
use Rattle.std.proofs.lemmas.List.{append-nil, drop-append-le, length-append}
use Rattle.std.proofs.lemmas.List.Elements.{All-push, All-weaker}
use Rattle.std.proofs.Math.ListN.{drop_of_length-le}
use Rattle.std.specs.Option.{option_map}
use Rattle.pc_known.proofs.Numbered.{marks-push, marks-set, numbered-push}
use Rattle.pc_known.specs.declared.sends.Sends.{Sends}
use Rattle.pc_known.specs.Sends.{StandByNumber, MarksHeard, HasOneMoreSent, KeepsSends, MarkHeard}
use Rattle.pc_base.specs.declared.entry.Entry.{Entry}
use Rattle.pc_proto.specs.declared.call.Call.{Call}
use Rattle.pc_proto.specs.declared.event.Event.{Event}
use Rattle.pc_proto.specs.declared.event.Event.TheVariants as events
use Rattle.pc_proto.specs.declared.reply.Reply.{Reply}
use Rattle.pc_proto.specs.declared.request.Request.{Request}
use Rattle.pc_world.specs.Known.{Known, known_after, next_number}
use Rattle.pc_world.specs.Known.Traffic.{Heard, Sent, heard_as, heard_by, reply_named, request_sent}

-- A reply is to a message that was sent.
abbrev IsToSent : List Sent → Heard → Type 0
IsToSent sent h = (1 ≤ h.number) × (h.number ≤ length sent)

marks-move : (heard heard' : List Heard) (sent sent' : List Sent) (marks marks' : List Bool) → heard ≡ heard' → sent ≡ sent' → marks ≡ marks' → MarkHeard heard 0 sent marks → MarkHeard heard' 0 sent' marks'
marks-move heard heard' sent sent' marks marks' a b c is =
    subst (λ ms. MarkHeard heard' 0 sent' ms) c (subst (λ s. MarkHeard heard' 0 s marks) b (subst (λ h. MarkHeard h 0 sent marks) a is))

only-move : (heard heard' : List Heard) (sent sent' : List Sent) → heard ≡ heard' → sent ≡ sent' → All (IsToSent sent) heard → All (IsToSent sent') heard'
only-move heard heard' sent sent' a b is = subst (λ s. All (IsToSent s) heard') b (subst (λ h. All (IsToSent sent) h) a is)

-- nothing was sent or heard
pub stays : (k k' : Known) (x : Sends) → k.sent ≡ k'.sent → k.sent_now ≡ k'.sent_now → k.heard ≡ k'.heard → KeepsSends k x → KeepsSends k' x
stays k k' x sent now heard keeps = record {
  sent = keeps.sent ∙ sent;
  before = subst (λ s. x.before ≤ length s) sent keeps.before;
  now = ap (λ s. drop x.before s) (sym sent) ∙ keeps.now ∙ now;
  numbered = subst (StandByNumber 0) sent keeps.numbered;
  marks = marks-move k.heard k'.heard k.sent k'.sent x.heard.items x.heard.items heard sent refl keeps.marks;
  only_sent = only-move k.heard k'.heard k.sent k'.sent heard sent keeps.only_sent;
}

-- a call was asked
pub asked_keeps : (k : Known) (x y : Sends) (call : Call) (reading top high : ℕ) → KeepsSends k x → y ≡ record x { before = length x.messages.items } → KeepsSends (known_after (events.Ask call reading) None top high k) y
asked_keeps k x y call reading top high keeps is =
    let same : k.sent ≡ k.sent ++ [] = sym (append-nil k.sent) in
    let heard : k.heard ≡ k.heard ++ [] = sym (append-nil k.heard) in
    let long : y.before ≡ length k.sent = ap (λ z. z.before) is ∙ ap length keeps.sent in
    let as_long : length k.sent ≡ length (k.sent ++ []) = ap length same in
    let le : y.before ≤ length (k.sent ++ []) = omega (arith, long, as_long) in
    let ge : length (k.sent ++ []) ≤ y.before = omega (arith, long, as_long) in
    let marks : x.heard.items ≡ y.heard.items = sym (ap (λ z. z.heard.items) is) in
    record {
      sent = ap (λ z. z.messages.items) is ∙ keeps.sent ∙ same;
      before = le;
      now = drop_of_length-le (k.sent ++ []) ge;
      numbered = subst (StandByNumber 0) same keeps.numbered;
      marks = marks-move k.heard (k.heard ++ []) k.sent (k.sent ++ []) x.heard.items y.heard.items heard same marks keeps.marks;
      only_sent = only-move k.heard (k.heard ++ []) k.sent (k.sent ++ []) heard same keeps.only_sent;
    }

-- a message was sent
pub sent_keeps : (k : Known) (x y : Sends) (number range : ℕ) (request : Request) (top high : ℕ) → KeepsSends k x → number ≡ next_number k
    → HasOneMoreSent (record { number = number; range = range; request = request }) x y → KeepsSends (known_after (events.Send number range request) None top high k) y
sent_keeps k x y number range request top high keeps next has =
    let m : Sent = record { number = number; range = range; request = request } in
    let heard : k.heard ≡ k.heard ++ [] = sym (append-nil k.heard) in
    let longer : length (k.sent ++ m ∷ []) ≡ length k.sent + 1 = length-append k.sent (m ∷ []) in
    let le : y.before ≤ length (k.sent ++ m ∷ []) = omega (arith, has.same, keeps.before, longer) in
    let low : All (λ h. h.number ≤ 0 + length k.sent) k.heard = All-weaker (IsToSent k.sent) (λ h. h.number ≤ 0 + length k.sent) (λ (h : Heard) (t : IsToSent k.sent h). omega (arith, t.1)) k.heard keeps.only_sent in
    let wide : All (IsToSent (k.sent ++ m ∷ [])) k.heard = All-weaker (IsToSent k.sent) (IsToSent (k.sent ++ m ∷ [])) (λ (h : Heard) (t : IsToSent k.sent h). (t.0, omega (arith, t.1, longer))) k.heard keeps.only_sent in
    record {
      sent = has.messages ∙ ap (λ s. s ++ m ∷ []) keeps.sent;
      before = le;
      now = ap (λ n. drop n (k.sent ++ m ∷ [])) has.same ∙ drop-append-le x.before k.sent (m ∷ []) keeps.before ∙ ap (λ s. s ++ m ∷ []) keeps.now;
      numbered = numbered-push 0 k.sent m (omega (arith, next)) keeps.numbered;
      marks = marks-move k.heard (k.heard ++ []) (k.sent ++ m ∷ []) (k.sent ++ m ∷ []) (x.heard.items ++ false ∷ []) y.heard.items heard refl (sym has.marks) (marks-push k.heard 0 k.sent x.heard.items m low keeps.marks);
      only_sent = only-move k.heard (k.heard ++ []) (k.sent ++ m ∷ []) (k.sent ++ m ∷ []) heard refl wide;
    }

-- what was heard was sent
within-by : (last n : ℕ) (s m : Sent) (sent : List Sent) → s.number ≡ last + 1 → (find (λ m. m.number == n) sent ≡ Some m → (last + 1 + 1 ≤ n) × (n ≤ last + 1 + length sent))
    → (b : Bool) → (s.number == n) ≡ b → cond b (Some s) (find (λ m. m.number == n) sent) ≡ Some m → (last + 1 ≤ n) × (n ≤ last + length (s ∷ sent))
within-by last n s m sent at later true same is = let here : s.number ≡ n = eqb-true s.number n same in (omega arith, omega arith)
within-by last n s m sent at later false other is = let more = later is in (omega (arith, more.0), omega (arith, more.1))

within : (last : ℕ) (sent : List Sent) (n : ℕ) (m : Sent) → StandByNumber last sent → find (λ m. m.number == n) sent ≡ Some m → (last + 1 ≤ n) × (n ≤ last + length sent)
within last [] n m numbered is = absurd cc
within last (s ∷ sent) n m numbered is =
    within-by last n s m sent numbered.0 (λ later. within (last + 1) sent n m numbered.1 later) (s.number == n) refl is

request-within : (k : Known) (x : Sends) (n : ℕ) (request : Request) → KeepsSends k x → request_sent n k.sent ≡ Some request → (1 ≤ n) × (n ≤ length k.sent)
request-within k x n request keeps is = by (find (λ m. m.number == n) k.sent) refl
  where
    by : (found : Option Sent) → find (λ m. m.number == n) k.sent ≡ found → (1 ≤ n) × (n ≤ length k.sent)
    by None at = let no : None ≡ Some request = sym (ap (option_map (λ m. m.request)) at) ∙ is in absurd cc
    by (Some m) at = let w = within 0 k.sent n m keeps.numbered at in (omega (arith, w.0), omega (arith, w.1))

heard-is : (n s : ℕ) (request : Option Request) (reply : Option Reply) (h : Heard) → heard_as n s request reply ≡ Some h → (h.number ≡ n) × ((r : Request) × (request ≡ Some r))
heard-is n s None reply h is = absurd cc
heard-is n s (Some request) None h is = absurd cc
heard-is n s (Some request) (Some reply) h is =
    let same : h ≡ record { number = n; request = request; reply = reply; step = s } = cc in
    (ap (λ z. z.number) same, (request, refl))

marks-long : (heard : List Heard) (last : ℕ) (sent : List Sent) (marks : List Bool) → MarkHeard heard last sent marks → length marks ≡ length sent
marks-long heard last [] [] is = refl
marks-long heard last [] (mark ∷ marks) is = absurd is
marks-long heard last (m ∷ sent) [] is = absurd is
marks-long heard last (m ∷ sent) (mark ∷ marks) is = ap suc (marks-long heard (last + 1) sent marks is.1)

-- a reply was heard
pub heard_keeps : (k : Known) (x y : Sends) (n s : ℕ) (named : Option (Entry Event)) (top high : ℕ) → KeepsSends k x
    → MarksHeard (heard_by (events.Hear n s) named k.sent) x y → KeepsSends (known_after (events.Hear n s) (heard_by (events.Hear n s) named k.sent) top high k) y
heard_keeps k x y n s named top high keeps has = by (heard_by (events.Hear n s) named k.sent) refl has
  where
    by : (h : Option Heard) → heard_by (events.Hear n s) named k.sent ≡ h → MarksHeard h x y → KeepsSends (known_after (events.Hear n s) h top high k) y
    by None is has =
        subst (λ z. KeepsSends (known_after (events.Hear n s) None top high k) z) (sym has)
        (stays k (known_after (events.Hear n s) None top high k) x (sym (append-nil k.sent)) (sym (append-nil k.sent_now)) (sym (append-nil k.heard)) keeps)
    by (Some h) is has =
        let what = heard-is n s (request_sent n k.sent) (reply_named named) h is in
        let at = request-within k x n what.1.0 keeps what.1.1 in
        let same : k.sent ≡ k.sent ++ [] = sym (append-nil k.sent) in
        let long = marks-long k.heard 0 k.sent x.heard.items keeps.marks in
        let low : 1 ≤ h.number = omega (arith, what.0, at.0) in
        let high' : h.number ≤ length k.sent = omega (arith, what.0, at.1) in
        let marks : slice_set x.heard.items (h.number - 1) true ≡ y.heard.items = sym (has.marks low (omega (arith, high', long))) in
        let le : y.before ≤ length (k.sent ++ []) = omega (arith, has.same, keeps.before, ap length same) in
        record {
          sent = has.messages ∙ keeps.sent ∙ same;
          before = le;
          now = ap (λ b. drop b (k.sent ++ [])) has.same ∙ ap (λ s. drop x.before s) (sym same) ∙ keeps.now ∙ sym (append-nil k.sent_now);
          numbered = subst (StandByNumber 0) same keeps.numbered;
          marks = marks-move (k.heard ++ h ∷ []) (k.heard ++ h ∷ []) k.sent (k.sent ++ []) (slice_set x.heard.items (h.number - 1) true) y.heard.items refl same marks (marks-set k.heard h 0 k.sent x.heard.items (h.number - 1) (omega (arith, low)) keeps.marks);
          only_sent = only-move (k.heard ++ h ∷ []) (k.heard ++ h ∷ []) k.sent (k.sent ++ []) refl same (All-push (IsToSent k.sent) k.heard h keeps.only_sent (low, high'));
        }
