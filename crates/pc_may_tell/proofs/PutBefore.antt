-- A put was sent before the open call where the number of the first one is not of the call.
use Rattle.std.proofs.Common.{◌≡◌, ◌&&◌, ◌||◌, ◌+◌, ◌-◌, ◌<◌, ◌≤◌, ℕ, zero, suc, nat_le, nat_lt, not, Bool, true, false, cond, find, List, [], ◌∷◌, Option, None, Some, take, length, length-drop, refl, ap, ◌∙◌, arith}
use Rattle.std.proofs.lemmas.Bool.{le-leb, le-ltb, lt-ltb}
use Rattle.std.specs.List.{list_any}
use Rattle.std.specs.Option.{option_map, option_map_or}
use Rattle.pc_base.specs.declared.transaction.TxnId.{TxnId}
use Rattle.pc_files.specs.FirstPuts.{first_put_of}
use Rattle.pc_known.specs.declared.sends.Sends.{Sends}
use Rattle.pc_known.specs.Sends.{KeepsSends, StandByNumber, is_number_now}
use Rattle.pc_proto.specs.Requests.{is_put_of}
use Rattle.pc_world.specs.Known.{Known}
use Rattle.pc_world.specs.Known.Traffic.{Sent}
use Rattle.pc_world.specs.Tell.Data.{sent_before}

module _ (P : Sent → Bool) (before most : ℕ) where
  -- The first that is so was not sent since.
  abbrev Was : Option Sent → Bool
  Was o = option_map_or (λ m. not (nat_lt before m.number && nat_le m.number most)) o false

  none-before : (last : ℕ) (sent : List Sent) → StandByNumber last sent → before ≤ last → last + length sent ≤ most → Was (find P sent) ≡ false
  none-before last [] numbered above long = refl
  none-before last (m ∷ sent) numbered above long = by (P m) (none-before (last + 1) sent numbered.1 (omega arith) (omega arith))
    where
      by : (b : Bool) → Was (find P sent) ≡ false → Was (cond b (Some m) (find P sent)) ≡ false
      by true later =
          ap (λ b. not (b && nat_le m.number most)) (lt-ltb before m.number (omega (arith, numbered.0)))
          ∙ ap not (le-leb m.number most (omega (arith, numbered.0)))
      by false later = later

  some-before : (n last : ℕ) (sent : List Sent) → StandByNumber last sent → before ≡ last + n → last + length sent ≤ most → Was (find P sent) ≡ list_any P (take n sent)
  some-before zero last sent numbered is long = none-before last sent numbered (omega arith) long
  some-before (suc n) last [] numbered is long = refl
  some-before (suc n) last (m ∷ sent) numbered is long = by (P m) (some-before n (last + 1) sent numbered.1 (omega arith) (omega arith))
    where
      by : (b : Bool) → Was (find P sent) ≡ list_any P (take n sent) → Was (cond b (Some m) (find P sent)) ≡ (b || list_any P (take n sent))
      by true later = ap (λ b. not (b && nat_le m.number most)) (le-ltb before m.number (omega (arith, numbered.0)))
      by false later = later

  by-number : (o : Option Sent) → option_map_or (λ number. not (nat_lt before number && nat_le number most)) (option_map (λ (m : Sent). m.number) o) false ≡ Was o
  by-number None = refl
  by-number (Some m) = refl

-- the put was sent before the open call
pub put_before : (k : Known) (x : Sends) → KeepsSends k x → (id : TxnId) (epoch seq : ℕ)
    → option_map_or (λ number. not (is_number_now x number)) (first_put_of id epoch seq k.sent) false ≡ list_any (λ other. is_put_of id epoch seq other.request) (sent_before k)
put_before k x keeps id epoch seq =
    let P : Sent → Bool = λ m. is_put_of id epoch seq m.request in
    by-number P x.before (length x.messages.items) (find P k.sent)
    ∙ some-before P x.before (length x.messages.items) x.before 0 k.sent keeps.numbered (omega arith) (omega (arith, ap length keeps.sent))
    ∙ ap (λ n. list_any (λ other. is_put_of id epoch seq other.request) (take n k.sent)) where-now
  where
    where-now : x.before ≡ length k.sent - length k.sent_now
    where-now = omega (arith, keeps.before, length-drop x.before k.sent, ap length keeps.now)
