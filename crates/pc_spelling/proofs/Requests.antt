-- Requests: what was printed is read again, and what is read is spelled so.
use Rattle.std.proofs.Common.{◌≡◌, ℕ, true, List, Some, option_map, refl, ap}
use Rattle.std.specs.List.{list_all}
use Rattle.pc_proto.specs.declared.request.Request.{Request}
use Rattle.pc_proto.specs.declared.request.Request.TheVariants as requests
use Rattle.pc_journal.specs.Request.{request_text}
use Rattle.pc_spelling.specs.Cutting.{cut}
use Rattle.pc_journal.specs.Fits.{FitsRequest}
use Rattle.pc_spelling.specs.ReadingLines.{request_at}
use Rattle.pc_spelling.specs.Bytes.{is_line_byte}
use Rattle.pc_spelling.proofs.LineParts.{◌⊗◌, number, name, fields, last}
use Rattle.pc_spelling.proofs.Readings.{IsReading}
use Rattle.pc_spelling.proofs.Words.{words_take, or_word_takes, no_word_takes, alone_takes, behind_takes}
use Rattle.pc_spelling.proofs.Numbers.{number32, number64, ts, id}
use Rattle.pc_spelling.proofs.Names.{key, maybe_value, who, priority, span}
use Rattle.pc_spelling.proofs.Parts.{meta, point, writes, keys, why}
use Rattle.pc_spelling.proofs.Views.{goal, finding, fate}

-- ---- requests

request_again : (x : Request) → FitsRequest x → request_at (request_text x) ≡ Some x
unfolding request_at cut
request_again (requests.Get i e s t k) h = ap (option_map (λ p. requests.Get p.0.0 p.0.1.0 p.0.1.1 p.1.0 p.1.1)) ((fields point ⊗ name ts ⊗ last (name key)).again ((i, (e, s)), (t, k)) h)
request_again (requests.Scan i e s t sp) h = ap (option_map (λ p. requests.Scan p.0.0 p.0.1.0 p.0.1.1 p.1.0 p.1.1)) ((fields point ⊗ name ts ⊗ last span).again ((i, (e, s)), (t, sp)) h)
request_again (requests.Put m s t k v) h = ap (option_map (λ p. requests.Put p.0 p.1.0 p.1.1.0 p.1.1.1.0 p.1.1.1.1)) ((fields meta ⊗ number number32 ⊗ name ts ⊗ name key ⊗ last (fields maybe_value)).again (m, (s, (t, (k, v)))) h)
request_again (requests.Refresh i f t sp) h = ap (option_map (λ p. requests.Refresh p.0 p.1.0 p.1.1.0 p.1.1.1)) ((name id ⊗ name ts ⊗ name ts ⊗ last span).again (i, (f, (t, sp))) h)
request_again (requests.Query i e s t k w) h = ap (option_map (λ p. requests.Query p.0.0 p.0.1.0 p.0.1.1 p.1.0 p.1.1.0 p.1.1.1)) ((fields point ⊗ name ts ⊗ name key ⊗ last (name who)).again ((i, (e, s)), (t, (k, w))) h)
request_again (requests.Resolve i k f) h = ap (option_map (λ p. requests.Resolve p.0 p.1.0 p.1.1)) ((name id ⊗ name key ⊗ fate).again (i, (k, f)) h)
request_again (requests.Beat m t n) h = ap (option_map (λ p. requests.Beat p.0 p.1.0 p.1.1)) ((fields meta ⊗ name ts ⊗ last (number number64)).again (m, (t, n)) h)
request_again (requests.Stage m t n ws ks) h = ap (option_map (λ p. requests.Stage p.0 p.1.0 p.1.1.0 p.1.1.1.0 p.1.1.1.1)) ((fields meta ⊗ name ts ⊗ number number64 ⊗ writes ⊗ last keys).again (m, (t, (n, (ws, ks)))) h)
request_again (requests.Commit m t ks) h = ap (option_map (λ p. requests.Commit p.0 p.1.0 p.1.1)) ((fields meta ⊗ name ts ⊗ last keys).again (m, (t, ks)) h)
request_again (requests.Abort m w ks) h = ap (option_map (λ p. requests.Abort p.0 p.1.0 p.1.1)) ((fields meta ⊗ fields why ⊗ last keys).again (m, (w, ks)) h)
request_again (requests.Push m w l n g) h = ap (option_map (λ p. requests.Push p.0 p.1.0 p.1.1.0 p.1.1.1.0 p.1.1.1.1)) ((fields meta ⊗ name who ⊗ name priority ⊗ number number64 ⊗ goal).again (m, (w, (l, (n, g)))) h)
request_again (requests.Recover i e t k f) h = ap (option_map (λ p. requests.Recover p.0 p.1.0 p.1.1.0 p.1.1.1.0 p.1.1.1.1)) ((name id ⊗ number number32 ⊗ name ts ⊗ name key ⊗ finding).again (i, (e, (t, (k, f)))) h)
request_again (requests.Remove i k) h = ap (option_map (λ p. requests.Remove p.0 p.1)) ((name id ⊗ last (name key)).again (i, k) h)
request_again requests.Records h = refl

request_takes : (bs : List ℕ) (x : Request) → request_at bs ≡ Some x → (bs ≡ request_text x) × FitsRequest x
unfolding request_at
request_takes = words_take 32
    (or_word_takes (behind_takes (λ p. requests.Get p.0.0 p.0.1.0 p.0.1.1 p.1.0 p.1.1) (λ p h. (h, refl)) (fields point ⊗ name ts ⊗ last (name key)))
    (or_word_takes (behind_takes (λ p. requests.Scan p.0.0 p.0.1.0 p.0.1.1 p.1.0 p.1.1) (λ p h. (h, refl)) (fields point ⊗ name ts ⊗ last span))
    (or_word_takes (behind_takes (λ p. requests.Put p.0 p.1.0 p.1.1.0 p.1.1.1.0 p.1.1.1.1) (λ p h. (h, refl)) (fields meta ⊗ number number32 ⊗ name ts ⊗ name key ⊗ last (fields maybe_value)))
    (or_word_takes (behind_takes (λ p. requests.Refresh p.0 p.1.0 p.1.1.0 p.1.1.1) (λ p h. (h, refl)) (name id ⊗ name ts ⊗ name ts ⊗ last span))
    (or_word_takes (behind_takes (λ p. requests.Query p.0.0 p.0.1.0 p.0.1.1 p.1.0 p.1.1.0 p.1.1.1) (λ p h. (h, refl)) (fields point ⊗ name ts ⊗ name key ⊗ last (name who)))
    (or_word_takes (behind_takes (λ p. requests.Resolve p.0 p.1.0 p.1.1) (λ p h. (h, refl)) (name id ⊗ name key ⊗ fate))
    (or_word_takes (behind_takes (λ p. requests.Beat p.0 p.1.0 p.1.1) (λ p h. (h, refl)) (fields meta ⊗ name ts ⊗ last (number number64)))
    (or_word_takes (behind_takes (λ p. requests.Stage p.0 p.1.0 p.1.1.0 p.1.1.1.0 p.1.1.1.1) (λ p h. (h, refl)) (fields meta ⊗ name ts ⊗ number number64 ⊗ writes ⊗ last keys))
    (or_word_takes (behind_takes (λ p. requests.Commit p.0 p.1.0 p.1.1) (λ p h. (h, refl)) (fields meta ⊗ name ts ⊗ last keys))
    (or_word_takes (behind_takes (λ p. requests.Abort p.0 p.1.0 p.1.1) (λ p h. (h, refl)) (fields meta ⊗ fields why ⊗ last keys))
    (or_word_takes (behind_takes (λ p. requests.Push p.0 p.1.0 p.1.1.0 p.1.1.1.0 p.1.1.1.1) (λ p h. (h, refl)) (fields meta ⊗ name who ⊗ name priority ⊗ number number64 ⊗ goal))
    (or_word_takes (behind_takes (λ p. requests.Recover p.0 p.1.0 p.1.1.0 p.1.1.1.0 p.1.1.1.1) (λ p h. (h, refl)) (name id ⊗ number number32 ⊗ name ts ⊗ name key ⊗ finding))
    (or_word_takes (behind_takes (λ p. requests.Remove p.0 p.1) (λ p h. (h, refl)) (name id ⊗ last (name key)))
    (or_word_takes (alone_takes requests.Records tt refl)
    no_word_takes))))))))))))))

request_bytes : (x : Request) → FitsRequest x → list_all is_line_byte (request_text x) ≡ true
request_bytes (requests.Get i e s t k) h = (fields point ⊗ name ts ⊗ last (name key)).bytes ((i, (e, s)), (t, k)) h
request_bytes (requests.Scan i e s t sp) h = (fields point ⊗ name ts ⊗ last span).bytes ((i, (e, s)), (t, sp)) h
request_bytes (requests.Put m s t k v) h = (fields meta ⊗ number number32 ⊗ name ts ⊗ name key ⊗ last (fields maybe_value)).bytes (m, (s, (t, (k, v)))) h
request_bytes (requests.Refresh i f t sp) h = (name id ⊗ name ts ⊗ name ts ⊗ last span).bytes (i, (f, (t, sp))) h
request_bytes (requests.Query i e s t k w) h = (fields point ⊗ name ts ⊗ name key ⊗ last (name who)).bytes ((i, (e, s)), (t, (k, w))) h
request_bytes (requests.Resolve i k f) h = (name id ⊗ name key ⊗ fate).bytes (i, (k, f)) h
request_bytes (requests.Beat m t n) h = (fields meta ⊗ name ts ⊗ last (number number64)).bytes (m, (t, n)) h
request_bytes (requests.Stage m t n ws ks) h = (fields meta ⊗ name ts ⊗ number number64 ⊗ writes ⊗ last keys).bytes (m, (t, (n, (ws, ks)))) h
request_bytes (requests.Commit m t ks) h = (fields meta ⊗ name ts ⊗ last keys).bytes (m, (t, ks)) h
request_bytes (requests.Abort m w ks) h = (fields meta ⊗ fields why ⊗ last keys).bytes (m, (w, ks)) h
request_bytes (requests.Push m w l n g) h = (fields meta ⊗ name who ⊗ name priority ⊗ number number64 ⊗ goal).bytes (m, (w, (l, (n, g)))) h
request_bytes (requests.Recover i e t k f) h = (name id ⊗ number number32 ⊗ name ts ⊗ name key ⊗ finding).bytes (i, (e, (t, (k, f)))) h
request_bytes (requests.Remove i k) h = (name id ⊗ last (name key)).bytes (i, k) h
request_bytes requests.Records h = refl

pub request : IsReading is_line_byte FitsRequest request_text request_at
request = record { again = request_again; takes = request_takes; bytes = request_bytes }
