-- Pieces that are written one after another.
use Rattle.std.proofs.Common.{◌≡◌, ℕ, ◌+◌, ◌<◌, ◌≤◌, List, [], ◌++◌, length, take, drop, get_or, Option, Some, None, refl, sym, ap, ◌∙◌, inl, inr, arith, append_assoc, append-nil, length-append}
use Rattle.std.specs.Borrow.{Bor}
use Rattle.std.specs.List.{flat_map}
use Rattle.std.proofs.lemmas.List.{at_drop_more, take-append-le}
use Rattle.std.proofs.Math.Seq.{take-append-add, take-length}
use Rattle.command_line.specs.Words.{Text}
use Rattle.call_meaning.specs.FailureWords.{WritesLine}
use Rattle.xt_io.specs.Outside.{Rose, appended, IsPrefixAppended}

-- the pieces as one text
abbrev pub joined : List (Bor Text) → Text
joined pieces = flat_map (λ piece. piece.now) pieces

appended-nothing : (w : Option Text) → w ≡ appended w []
appended-nothing None = refl
appended-nothing (Some w) = ap Some (sym (append-nil w))

appended-append : (w : Option Text) (a b : Text) → appended (appended w a) b ≡ appended w (a ++ b)
appended-append None a b = refl
appended-append (Some w) a b = ap Some (append_assoc w a b)

-- a first part of the text was written, and this is left
pub record IsBegun (before after : Option Text) (faults new_faults : ℕ) (left text : Text) : Type 0 where
  done : Text
  written : after ≡ appended before done
  whole : done ++ left ≡ text
  counts : faults ≤ new_faults

pub nothing_written : (w : Option Text) (f : ℕ) (text : Text) → IsBegun w w f f text text
nothing_written w f text = record { done = []; written = appended-nothing w; whole = refl; counts = omega arith }

module _ (w v u : Option Text) (f g h : ℕ) (pieces : List (Bor Text)) (i : ℕ) (d : Bor Text) (text : Text) (there : i < length pieces)
    (begun : IsBegun w v f g (joined (drop i pieces)) text) where
  abbrev piece : Text
  piece = (get_or pieces i d).now

  next : joined (drop i pieces) ≡ piece ++ joined (drop (i + 1) pieces)
  next = at_drop_more joined pieces i d there

  pub one_more : u ≡ appended v piece → g ≤ h → IsBegun w u f h (joined (drop (i + 1) pieces)) text
  one_more e more = record {
    done = begun.done ++ piece;
    written = e ∙ (ap (λ x. appended x piece) begun.written ∙ appended-append w begun.done piece);
    whole = append_assoc begun.done piece (joined (drop (i + 1) pieces)) ∙ (ap (λ l. begun.done ++ l) (sym next) ∙ begun.whole);
    counts = omega (arith, begun.counts, more);
  }

  rose_since : Rose g h → Rose f h
  rose_since (inl more) = inl (omega (arith, begun.counts, more))
  rose_since (inr full) = inr full

  pub cut_off : IsPrefixAppended v u piece → Rose g h → WritesLine w u f h text
  cut_off p rose =
      let within : p.0 ≤ length piece = omega (arith, p.1) in
      let front : begun.done ++ take p.0 piece ≡ take (length begun.done + p.0) text =
      ap (λ l. begun.done ++ l) (sym (take-append-le p.0 piece (joined (drop (i + 1) pieces)) within) ∙ ap (take p.0) (sym next))
      ∙ (sym (take-append-add begun.done (joined (drop i pieces)) p.0) ∙ ap (take (length begun.done + p.0)) begun.whole) in
      record {
        count = length begun.done + p.0;
        within = omega (arith, p.1, length-append begun.done (joined (drop i pieces)), ap length begun.whole, ap length next, length-append piece (joined (drop (i + 1) pieces)));
        prefix = p.2 ∙ (ap (λ x. appended x (take p.0 piece)) begun.written ∙ (appended-append w begun.done (take p.0 piece) ∙ ap (appended w) front));
        whole = inr (rose_since rose);
      }

pub all_written : (w v : Option Text) (f g : ℕ) (text : Text) → IsBegun w v f g [] text → WritesLine w v f g text
all_written w v f g text begun = record {
  count = length text;
  within = omega arith;
  prefix = begun.written ∙ ap (appended w) (sym (append-nil begun.done) ∙ (begun.whole ∙ sym (take-length text)));
  whole = inl refl;
}

-- ---- the lines of refusals, as their pieces are written

pub place_pieces : (file colon number space word end f n c : Text) → file ≡ f → number ≡ n → word ≡ c
    → file ++ (colon ++ (number ++ (space ++ (word ++ (end ++ []))))) ≡ (f ++ (colon ++ (n ++ (space ++ c)))) ++ end
place_pieces file colon number space word end f n c is_f is_n is_c = rw (is_f, is_n, is_c, append-nil) (simp append_assoc refl)

pub length_pieces : (start file space number end f n : Text) → file ≡ f → number ≡ n
    → start ++ (file ++ (space ++ (number ++ (end ++ [])))) ≡ (start ++ (f ++ (space ++ n))) ++ end
length_pieces start file space number end f n is_f is_n = rw (is_f, is_n, append-nil) (simp append_assoc refl)

pub limit_pieces : (start what gap name space number end w f n : Text) → what ≡ w → name ++ space ≡ f → number ≡ n
    → start ++ (what ++ (gap ++ (name ++ (space ++ (number ++ (end ++ [])))))) ≡ (start ++ (w ++ (gap ++ (f ++ n)))) ++ end
limit_pieces start what gap name space number end w f n is_w is_f is_n = rw (is_w, is_n, sym is_f, append-nil) (simp append_assoc refl)

pub name_pieces : (start code gap name end : Text) → start ++ (code ++ (gap ++ (name ++ (end ++ [])))) ≡ (start ++ (code ++ (gap ++ name))) ++ end
name_pieces start code gap name end = rw append-nil (simp append_assoc refl)

pub names_pieces : (start code gap first between second end f s : Text) → first ≡ f → second ≡ s
    → start ++ (code ++ (gap ++ (first ++ (between ++ (second ++ (end ++ [])))))) ≡ (start ++ (code ++ (gap ++ (f ++ (between ++ s))))) ++ end
names_pieces start code gap first between second end f s is_f is_s = rw (is_f, is_s, append-nil) (simp append_assoc refl)

pub file_pieces : (start file end f : Text) → file ≡ f → start ++ (file ++ (end ++ [])) ≡ (start ++ f) ++ end
file_pieces start file end f is_f = rw (is_f, append-nil) (simp append_assoc refl)
