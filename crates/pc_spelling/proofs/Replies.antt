-- Replies: what was printed is read again, and what is read is spelled so.
use Rattle.std.proofs.Common.{◌≡◌, ℕ, true, List, Some, option_map, refl, ap}
use Rattle.std.specs.List.{list_all}
use Rattle.pc_proto.specs.declared.reply.Reply.{Reply}
use Rattle.pc_proto.specs.declared.reply.Reply.TheVariants as replies
use Rattle.pc_journal.specs.Reply.{reply_text, origin_text}
use Rattle.pc_spelling.specs.Cutting.{cut}
use Rattle.pc_journal.specs.Fits.{FitsReply}
use Rattle.pc_spelling.specs.ReadingLines.{reply_at}
use Rattle.pc_journal.specs.Fits.{FitsOrigin}
use Rattle.pc_spelling.specs.Reading.{origin_at}
use Rattle.pc_spelling.specs.Bytes.{is_line_byte, is_part_byte}
use Rattle.pc_spelling.proofs.LineParts.{◌⊗◌, name, fields, last}
use Rattle.pc_spelling.proofs.Readings.{IsReading, wider}
use Rattle.pc_spelling.proofs.Words.{words_take, or_word_takes, no_word_takes, alone_takes, behind_takes}
use Rattle.pc_spelling.proofs.ByteClasses.{origins_in_values, values_in_parts, within_both}
use Rattle.pc_spelling.proofs.Numbers.{ts}
use Rattle.pc_spelling.proofs.Names.{key, maybe_value, origin}
use Rattle.pc_spelling.proofs.Parts.{meta, metas, rows}
use Rattle.pc_spelling.proofs.Views.{view}

-- An origin as a part of a line.
origin_part : IsReading is_part_byte FitsOrigin origin_text origin_at
origin_part = wider (within_both origins_in_values values_in_parts) origin

-- ---- replies

reply_again : (x : Reply) → FitsReply x → reply_at (reply_text x) ≡ Some x
unfolding reply_at cut
reply_again (replies.Value o v) h = ap (option_map (λ p. replies.Value p.0 p.1)) ((origin_part ⊗ last (fields maybe_value)).again (o, v) h)
reply_again (replies.Rows rs) h = ap (option_map replies.Rows) ((last rows).again rs h)
reply_again (replies.Conflict m t k) h = ap (option_map (λ p. replies.Conflict p.0 p.1.0 p.1.1)) ((fields meta ⊗ name ts ⊗ last (name key)).again (m, (t, k)) h)
reply_again (replies.Written t) h = ap (option_map replies.Written) ((last (name ts)).again t h)
reply_again replies.Refreshed h = refl
reply_again (replies.Unrefreshed k t) h = ap (option_map (λ p. replies.Unrefreshed p.0 p.1)) ((name key ⊗ last (name ts)).again (k, t) h)
reply_again (replies.Status v) h = ap (option_map replies.Status) (view.again v h)
reply_again (replies.Refused v) h = ap (option_map replies.Refused) (view.again v h)
reply_again (replies.Unsure v) h = ap (option_map replies.Unsure) (view.again v h)
reply_again replies.Found h = refl
reply_again replies.Missing h = refl
reply_again replies.Resolved h = refl
reply_again replies.Removed h = refl
reply_again (replies.Listed ms) h = ap (option_map replies.Listed) ((last metas).again ms h)

reply_takes : (bs : List ℕ) (x : Reply) → reply_at bs ≡ Some x → (bs ≡ reply_text x) × FitsReply x
unfolding reply_at
reply_takes = words_take 32
    (or_word_takes (behind_takes (λ p. replies.Value p.0 p.1) (λ p h. (h, refl)) (origin_part ⊗ last (fields maybe_value)))
    (or_word_takes (behind_takes replies.Rows (λ p h. (h, refl)) (last rows))
    (or_word_takes (behind_takes (λ p. replies.Conflict p.0 p.1.0 p.1.1) (λ p h. (h, refl)) (fields meta ⊗ name ts ⊗ last (name key)))
    (or_word_takes (behind_takes replies.Written (λ p h. (h, refl)) (last (name ts)))
    (or_word_takes (alone_takes replies.Refreshed tt refl)
    (or_word_takes (behind_takes (λ p. replies.Unrefreshed p.0 p.1) (λ p h. (h, refl)) (name key ⊗ last (name ts)))
    (or_word_takes (behind_takes replies.Status (λ p h. (h, refl)) view)
    (or_word_takes (behind_takes replies.Refused (λ p h. (h, refl)) view)
    (or_word_takes (behind_takes replies.Unsure (λ p h. (h, refl)) view)
    (or_word_takes (alone_takes replies.Found tt refl)
    (or_word_takes (alone_takes replies.Missing tt refl)
    (or_word_takes (alone_takes replies.Resolved tt refl)
    (or_word_takes (alone_takes replies.Removed tt refl)
    (or_word_takes (behind_takes replies.Listed (λ p h. (h, refl)) (last metas))
    no_word_takes))))))))))))))

reply_bytes : (x : Reply) → FitsReply x → list_all is_line_byte (reply_text x) ≡ true
reply_bytes (replies.Value o v) h = (origin_part ⊗ last (fields maybe_value)).bytes (o, v) h
reply_bytes (replies.Rows rs) h = (last rows).bytes rs h
reply_bytes (replies.Conflict m t k) h = (fields meta ⊗ name ts ⊗ last (name key)).bytes (m, (t, k)) h
reply_bytes (replies.Written t) h = (last (name ts)).bytes t h
reply_bytes replies.Refreshed h = refl
reply_bytes (replies.Unrefreshed k t) h = (name key ⊗ last (name ts)).bytes (k, t) h
reply_bytes (replies.Status v) h = view.bytes v h
reply_bytes (replies.Refused v) h = view.bytes v h
reply_bytes (replies.Unsure v) h = view.bytes v h
reply_bytes replies.Found h = refl
reply_bytes replies.Missing h = refl
reply_bytes replies.Resolved h = refl
reply_bytes replies.Removed h = refl
reply_bytes (replies.Listed ms) h = (last metas).bytes ms h

pub reply : IsReading is_line_byte FitsReply reply_text reply_at
reply = record { again = reply_again; takes = reply_takes; bytes = reply_bytes }
