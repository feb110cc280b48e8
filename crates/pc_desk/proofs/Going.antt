-- The range to which a request goes is there, and the timestamps of a message that was sent are below the greatest.
use Rattle.std.proofs.Common.{◌≡◌, ℕ, ◌+◌, ◌<◌, ◌≤◌, ◌^◌, List, [], ◌∷◌, length, None, Some, sym, ap, ◌∙◌, arith}
use Rattle.std.proofs.lemmas.List.Elements.{All-weaker}
use Rattle.std.proofs.lemmas.List.Sums.{count_by-le-length}
use Rattle.pc_base.specs.declared.span.Span.{Span}
use Rattle.pc_base.specs.declared.span.Span.TheVariants.{Between, One}
use Rattle.pc_base.specs.Rising.{AreRising}
use Rattle.pc_base.specs.Span.{key_at_most}
use Rattle.pc_base.specs.Timestamp.{greatest}
use Rattle.pc_proto.specs.declared.event.Event.TheVariants as events
use Rattle.pc_proto.specs.declared.request.Request.{Request}
use Rattle.pc_proto.specs.declared.request.Request.TheVariants as requests
use Rattle.pc_proto.specs.Stamps.{request_stamps}
use Rattle.pc_world.proofs.Pieces.{lies-at-start}
use Rattle.pc_world.specs.RangeOf.{GoesTo, pieces, range_of, range_of_start}
use Rattle.pc_world.specs.Run.{IsKept, clock_end}
use Rattle.pc_world.specs.Stamps.{AllBelowGreatest}

range-there : (splits : List (List ℕ)) (key : List ℕ) → range_of splits key ≤ length splits
range-there splits key = count_by-le-length (λ split. key_at_most split key) splits

start-there : (splits : List (List ℕ)) (span : Span) → range_of_start splits span ≤ length splits
start-there splits (One key) = range-there splits key
start-there splits (Between None to) = omega arith
start-there splits (Between (Some from) to) = range-there splits from

first-of : (a b : ℕ × Span) → a ∷ [] ≡ b ∷ [] → a.0 ≡ b.0
first-of a b same = let at : a ≡ b = cc in ap (λ (p : ℕ × Span). p.0) at

span-there : (splits : List (List ℕ)) (span : Span) (range : ℕ) → AreRising splits → pieces splits span ≡ (range, span) ∷ [] → range ≤ length splits
span-there splits span range rising lies =
    let start = lies-at-start splits span rising (range, lies) in
    let at : range ≡ range_of_start splits span = first-of (range, span) (range_of_start splits span, span) (sym lies ∙ start) in
    omega (arith, start-there splits span)

key-range : (splits : List (List ℕ)) (key : List ℕ) (range : ℕ) → range ≡ range_of splits key → range ≤ length splits
key-range splits key range is = omega (arith, range-there splits key)

-- the range to which a request goes is there
pub range_is_there : (splits : List (List ℕ)) (request : Request) (range : ℕ) → AreRising splits → GoesTo splits request range → range ≤ length splits
range_is_there splits (requests.Get id epoch seq ts key) range rising goes = key-range splits key range goes
range_is_there splits (requests.Scan id epoch seq ts span) range rising goes = span-there splits span range rising goes
range_is_there splits (requests.Put meta seq ts key value) range rising goes = key-range splits key range goes
range_is_there splits (requests.Refresh id from to span) range rising goes = span-there splits span range rising goes
range_is_there splits (requests.Beat meta ts now) range rising goes = key-range splits meta.anchor range goes
range_is_there splits (requests.Stage meta ts now writes locks) range rising goes = key-range splits meta.anchor range goes
range_is_there splits (requests.Commit meta ts locks) range rising goes = key-range splits meta.anchor range goes
range_is_there splits (requests.Abort meta why locks) range rising goes = key-range splits meta.anchor range goes
range_is_there splits (requests.Push holder by level now goal) range rising goes = key-range splits holder.anchor range goes
range_is_there splits (requests.Query id epoch seq ts key by) range rising goes = key-range splits key range goes
range_is_there splits (requests.Recover id epoch ts anchor finding) range rising goes = key-range splits anchor range goes
range_is_there splits (requests.Resolve id key fate) range rising goes = key-range splits key range goes
range_is_there splits (requests.Remove id anchor) range rising goes = key-range splits anchor range goes
range_is_there splits requests.Records range rising goes = goes

-- what a table keeps of a sending is below the greatest
pub kept_below : (step number range : ℕ) (request : Request) → IsKept step (events.Send number range request) → step < 2 ^ 48 → AllBelowGreatest (request_stamps request)
kept_below step number range request kept small = All-weaker (λ ts. ts ≤ clock_end + step + 1) (λ ts. ts < greatest) (λ ts h. omega arith) (request_stamps request) kept
