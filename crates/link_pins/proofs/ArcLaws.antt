-- The arcs of a timing group, one pair of edges after another.
use Rattle.std.proofs.Common.{◌≡◌, ℕ, ◌+◌, ◌<◌, List, [], ◌∷◌, ◌++◌, length, take, get_or, refl, ap, sym, ◌∙◌, append_assoc}
use Rattle.std.specs.Prelude.{Option, None, Some, filter_map}
use Rattle.std.specs.List.{cons_option}
use Rattle.std.specs.Option.{option_to_list}
use Rattle.std.proofs.lemmas.List.{take_more}
use Rattle.std.proofs.lemmas.List.Elements.{filter_map-append}

-- what is made of one item more
pub made_more : {X Y : Type 0} (h : X → Option Y) (xs : List X) (i : ℕ) (d : X) (old cur new : List Y) → i < length xs → cur ≡ old ++ filter_map h (take i xs)
    → new ≡ cur ++ option_to_list (h (get_or xs i d)) → new ≡ old ++ filter_map h (take (i + 1) xs)
made_more {X} {Y} h xs i d old cur new lt so_far step =
    let one : filter_map h (take (i + 1) xs) ≡ filter_map h (take i xs) ++ option_to_list (h (get_or xs i d)) =
    ap (filter_map h) (take_more xs i d lt) ∙ (filter_map-append h (take i xs) (get_or xs i d ∷ []) ∙ ap (λ l. filter_map h (take i xs) ++ l) (by (h (get_or xs i d)))) in
    step ∙ (ap (λ l. l ++ option_to_list (h (get_or xs i d))) so_far
    ∙ (append_assoc old (filter_map h (take i xs)) (option_to_list (h (get_or xs i d))) ∙ ap (λ l. old ++ l) (sym one)))
  where
    by : (o : Option Y) → cons_option o [] ≡ option_to_list o
    by None = refl
    by (Some y) = refl
