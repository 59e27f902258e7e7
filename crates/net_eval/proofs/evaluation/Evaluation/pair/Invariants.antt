use Rattle.std.proofs.Common.{◌≡◌, take}
use Rattle.std.specs.List.{fold}
use Rattle.xt_model.specs.declared.edge.Edge.TheVariants.{Rise, Fall}
use Rattle.xt_model.specs.Quads.{bottom, IsInRange}
use Rattle.net_eval.specs.Arcs.{with_arc_at}
use Rattle.net_eval.specs.Pins.{IsPin}
use Rattle.net_eval.specs.Scenes.{scene_of}
use Rattle.net_eval.specs.Tables.{AreTables}
use Rattle.net_eval.proofs.evaluation.Evaluation.pair.Given as goal

abbrev pub invariant-loop-arc : goal.invariant-loop-arc
invariant-loop-arc g l = record {
  pin : IsPin (scene_of l.self-inside.overlaps l.self-inside.design.now (g.V.Bounds.bound_of l.self-inside.view.now)) l.pin;
  rise_tables : AreTables l.self-inside.design.now (record { least = l.rise_load.0; most = l.rise_load.1 }) l.rise_tables;
  fall_tables : AreTables l.self-inside.design.now (record { least = l.fall_load.0; most = l.fall_load.1 }) l.fall_tables;
  rise : l.rise ≡ fold (with_arc_at (scene_of l.self-inside.overlaps l.self-inside.design.now (g.V.Bounds.bound_of l.self-inside.view.now)) Rise (record { least = l.rise_load.0; most = l.rise_load.1 })) bottom (take l.arc-index l.arc-items);
  fall : l.fall ≡ fold (with_arc_at (scene_of l.self-inside.overlaps l.self-inside.design.now (g.V.Bounds.bound_of l.self-inside.view.now)) Fall (record { least = l.fall_load.0; most = l.fall_load.1 })) bottom (take l.arc-index l.arc-items);
  rise_range : IsInRange l.rise;
  fall_range : IsInRange l.fall;
}
