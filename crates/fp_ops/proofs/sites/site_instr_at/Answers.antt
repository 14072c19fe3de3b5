use Rattle.std.proofs.Common.{◌≡◌, true, refl, subst}
use Rattle.fp_model.specs.Entries.{passes, text_at}
use Rattle.fp_model.specs.NamedInstructions.{all_texts}
use Rattle.fp_ops.specs.CallSites.{is_sound_site}
use Rattle.fp_ops.proofs.ReferenceTexts.{reference_there, site_descr, site_member}
use Rattle.fp_ops.proofs.sites.site_instr_at.Goals as goal

pub site_instr-requires-clause-descr : goal.site_instr-requires-clause-descr
site_instr-requires-clause-descr c =
    let entries = c.args.entries.now in
    let site = c.in-Some.site in
    let member = all_texts (text_at entries site.method.member.class) (text_at entries site.method.member.name) (text_at entries site.method.member.descr) in
    let sound = subst (λ o. passes (is_sound_site entries) o ≡ true) c.in-Some.ensures.some c.requires.sound in
    site_descr entries (text_at entries site.name) (text_at entries site.descr) site.method.kind member site.args.now sound

pub site_instr-requires-clause-there : goal.site_instr-requires-clause-there
site_instr-requires-clause-there c =
    let entries = c.args.entries.now in
    let site = c.in-Some.site in
    let member = all_texts (text_at entries site.method.member.class) (text_at entries site.method.member.name) (text_at entries site.method.member.descr) in
    let sound = subst (λ o. passes (is_sound_site entries) o ≡ true) c.in-Some.ensures.some c.requires.sound in
    reference_there entries member site.method.member.class site.method.member.name site.method.member.descr refl
    (site_member entries (text_at entries site.name) (text_at entries site.descr) site.method.kind member site.args.now sound)
