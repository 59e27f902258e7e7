-- A board as it is opened meets the rule.
use Rattle.std.proofs.Common.{◌≡◌, ℕ, ◌≤◌, refl, sym, subst, List, [], ◌∷◌, ◌++◌, arith}
use Rattle.xt_model.specs.declared.direction.Direction.{Direction}
use Rattle.xt_model.specs.declared.quad.Pair.{Pair}
use Rattle.xt_model.specs.Parts.{Parts}
use Rattle.xt_meaning.specs.Words.{bounds_in, numbers_of}
use Rattle.atomic_table.specs.Table.{opening}
use Rattle.chaos_core.specs.declared.setting.Setting.{Setting}
use Rattle.chaos_core.specs.Boards.{nets_of}
use Rattle.chaos_core.specs.Memories.{Memory, AreKept, IsKept}
use Rattle.chaos_core.proofs.Sight.{are_refl}
use Rattle.window_words.specs.declared.view.Role.TheVariants.{Spent}
use Rattle.window_words.specs.Views.{IsUnspent, count_from, first_view}
use Rattle.window_words.specs.Rule.{IsBehind, most_split, most_late, Kept}
use Rattle.window_words.proofs.Views.{only_one, once_none}

pub opened : (a : Setting) (words : List ℕ) → AreKept a (numbers_of a.start) → words ≡ numbers_of a.start ++ 0 ∷ [] → Kept a (opening words [] (first_view a))
opened a words kept are =
    let v = first_view a in
    let now = numbers_of a.start in
    let behind : IsBehind a now v = record { count = refl; started = kept.seen.started; behind = are_refl a.way (bounds_in now) } in
    record {
      now = now;
      next = 0;
      words = are;
      run = only_one (λ u. IsUnspent u.role → u.setting ≡ a) v (λ live. refl);
      bounded = kept;
      seen = record {
        behind = only_one (λ u. IsUnspent u.role → IsBehind a now u) v (λ live. behind);
        shown = λ word h. record { id = 0; view = v; there = refl; unspent = tt; seen = refl };
      };
      drawn = λ x. sym (once_none x);
      counted = record {
        first = refl;
        others = refl;
        out = only_one (λ u. u.out ≤ u.split) v (omega arith);
        split = only_one (λ u. u.split ≤ most_split u.role) v (omega arith);
      };
      few = record {
        each = only_one (λ u. count_from (nets_of a) u.drawn ≤ most_late u u.role) v (omega arith);
        spent = only_one (λ u. u.role ≡ Spent → u.drawn ≡ []) v (λ e. refl);
        all = omega arith;
      };
    }

-- ---- in the words of the code
abbrev pub setting_at : Parts → Direction → List Pair → Setting
setting_at d way start = record { design = d; way = way; start = start }

abbrev pub memory_at : Parts → Direction → List Pair → Memory
memory_at d way start = record { setting = setting_at d way start; words = numbers_of start; next = 0 }

pub opened_there : (m : Memory) (d e : Parts) (way : Direction) (start begin : List Pair) (words : List ℕ) → m ≡ memory_at d way start → IsKept m → e ≡ d → begin ≡ start → words ≡ numbers_of start ++ 0 ∷ []
    → Kept (setting_at e way begin) (opening words [] (first_view (setting_at e way begin)))
opened_there m d e way start begin words is kept same from are =
    let own : IsKept (memory_at d way start) = subst IsKept is kept in
    rw (same, from) (opened (setting_at d way start) words own.words are)
