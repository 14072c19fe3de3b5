use Rattle.std.proofs.Common.{◌<◌, ◌^◌, ◌∙◌, List, length, map, ap, subst, sym, arith}
use Rattle.std.specs.List.{flat_map}
use Rattle.fp_cells.specs.Cells.{total_places}
use Rattle.fp_eqs.specs.Equations.{AllLawful, Tasks}
use Rattle.fp_rta.specs.declared.giver.Giver.{Giver}
use Rattle.fp_rta.specs.declared.site.Shape.{Shape}
use Rattle.fp_rta.specs.CallGraph.{candidates}
use Rattle.fp_rta.specs.Meaning.{AreGiversShort, AreShapesOf, AreShapesShort, row_tasks, site_rows}
use Rattle.fp_rta.proofs.MadeTasks.{graph-lawful, rows-mean, sites-known}
use Rattle.fp_rta.proofs.tasks.RtaTasks.make.Goals as goal

pub invariant_of-result : goal.invariant_of-result
invariant_of-result c =
    let set = c.args.set.now in
    let facts = c.args.facts.now in
    let cells = c.args.cells.now in
    let gs = c.from_vec.ensures ∙ c.in_ok-givers.ensures.givers in
    let shaped : AreShapesOf facts cells c.from_vec-2.result = ap (map (λ (s : Shape). s.candidates)) c.from_vec-2.ensures ∙ c.in_ok-shapes.ensures.shapes ∙ ap (map (candidates cells)) c.as_slice.ensures in
    let ss = c.from_vec-3.ensures ∙ c.in_ok-sites.ensures ∙ ap (flat_map (site_rows cells)) c.as_slice-2.ensures in
    let numbered = c.law_places.ensures cells c.places-places.ensures.distinct in
    let tasks = rows-mean set facts cells c.from_vec.result c.from_vec-2.result c.from_vec-3.result c.requires.known gs shaped ss in
    let lawful = subst (λ (ts : Tasks). AllLawful (total_places cells) ts) (sym tasks) (graph-lawful set facts cells numbered c.requires.cells) in
    let few : total_places cells < 2 ^ 32 = omega (arith, c.places-places.ensures.places, c.places-places.type_inv) in
    record {
      laws = subst (λ n. AllLawful n (row_tasks c.from_vec.result c.from_vec-2.result c.from_vec-3.result)) (sym c.places-places.ensures.places) lawful;
      few = omega (arith, c.if-len.false, c.len.ensures, c.len-2.ensures, ap length c.from_vec.ensures, ap length c.from_vec-3.ensures);
      short_givers = subst (λ (l : List Giver). AreGiversShort l) (sym c.from_vec.ensures) c.in_ok-givers.ensures.short;
      short_shapes = subst (λ (l : List Shape). AreShapesShort l) (sym c.from_vec-2.ensures) c.in_ok-shapes.ensures.short;
      known = sites-known facts cells c.from_vec-2.result c.from_vec-3.result numbered few c.requires.known c.requires.cells shaped ss;
    }

pub returns-clause-tasks : goal.returns-clause-tasks
returns-clause-tasks c =
    let set = c.args.set.now in
    let facts = c.args.facts.now in
    let cells = c.args.cells.now in
    let gs = c.from_vec.ensures ∙ c.in_ok-givers.ensures.givers in
    let shaped : AreShapesOf facts cells c.from_vec-2.result = ap (map (λ (s : Shape). s.candidates)) c.from_vec-2.ensures ∙ c.in_ok-shapes.ensures.shapes ∙ ap (map (candidates cells)) c.as_slice.ensures in
    let ss = c.from_vec-3.ensures ∙ c.in_ok-sites.ensures ∙ ap (flat_map (site_rows cells)) c.as_slice-2.ensures in
    rows-mean set facts cells c.from_vec.result c.from_vec-2.result c.from_vec-3.result c.requires.known gs shaped ss
