-- Groups of the code and the trees that they stand for.
use Rattle.std.specs.Prelude.{◌≡◌, refl, List, [], ◌∷◌, ◌++◌, length, map}
use Rattle.std.proofs.Common.{ap, arith, ◌∙◌}
use Rattle.std.proofs.lemmas.List.{map-append, reverse-append}
use Rattle.liberty_groups.specs.declared.group.Group.{Group}
use Rattle.liberty_groups.specs.declared.group.Group.TheOpen.{Group-F}
use Rattle.liberty_groups.specs.declared.group.Group.TheViews.{out-Group, roll-Group}
use Rattle.liberty_groups.specs.declared.group.Group.TheFolds.{fold-roll-Group, fold_out-Group}
use Rattle.liberty_groups.specs.Trees.{Tree, node, head_of, attributes_of, groups_of, trees, forest, tree_and, followed_by, tree_step, tree_of, entry_of}
use Rattle.liberty_groups.specs.View.{innermost_first}

-- groups with one more group behind them
pub forest_push : (ts : List Tree) (t : Tree) → forest (ts ++ t ∷ []) ≡ followed_by (forest ts) t
forest_push [] t = refl
forest_push (u ∷ ts) t = ap (tree_and u) (forest_push ts t)

-- a group of the code that is put together, and one that is opened
pub rolled : (x : Group-F Group) → tree_of (roll-Group x)
    ≡ node (record { name = x.name; values = x.args; line = x.line }) (map entry_of x.attributes) (forest (map tree_of x.groups.items))
unfolding tree_of
rolled x = fold-roll-Group Tree tree_step x

pub opened : (g : Group) → tree_of g
    ≡ node (record { name = (out-Group g).name; values = (out-Group g).args; line = (out-Group g).line })
    (map entry_of (out-Group g).attributes) (forest (map tree_of (out-Group g).groups.items))
unfolding tree_of
opened g = fold_out-Group Tree tree_step g

-- groups one after another, as the list that they were
trees_forest : (ts : List Tree) → trees (forest ts) ≡ ts
trees_forest [] = refl
trees_forest (t ∷ ts) = ap (λ us. t ∷ us) (trees_forest ts)

-- what an opened group has
pub head_is : (g : Group) → head_of (tree_of g)
    ≡ record { name = (out-Group g).name; values = (out-Group g).args; line = (out-Group g).line }
head_is g = ap head_of (opened g)

pub attributes_are : (g : Group) → attributes_of (tree_of g) ≡ map entry_of (out-Group g).attributes
attributes_are g = ap attributes_of (opened g)

pub groups_are : (g : Group) → groups_of (tree_of g) ≡ map tree_of (out-Group g).groups.items
groups_are g = ap groups_of (opened g) ∙ trees_forest (map tree_of (out-Group g).groups.items)

-- no group
pub innermost_none : (gs : List Group) → length gs ≡ 0 → innermost_first gs ≡ []
unfolding innermost_first
innermost_none [] h = refl
innermost_none (g ∷ gs) h = absurd (omega (arith, h))

-- the innermost group stands first
pub innermost_push : (gs : List Group) (g : Group) → innermost_first (gs ++ g ∷ []) ≡ tree_of g ∷ innermost_first gs
unfolding innermost_first
innermost_push gs g = rw (map-append tree_of gs (g ∷ []), reverse-append (map tree_of gs) (tree_of g ∷ [])) refl
