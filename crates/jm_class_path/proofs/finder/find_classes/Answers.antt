-- One lookup more, and one name more that is known.
use Rattle.std.proofs.Common.{◌^◌, length, map, sym}
use Rattle.std.specs.String.{string_bytes}
use Rattle.jm_class_path.specs.Files.{IsFoundAs}
use Rattle.jm_class_path.proofs.Leading.{behind_name, falls_short, finds_pair, one_known, one_lookup_more, pair_of}
use Rattle.jm_class_path.proofs.finder.find_classes.Goals as goal

pub loop-name-smaller : goal.loop-name-smaller
loop-name-smaller g c =
    let after = behind_name c.loop-name.path c.in_ok-path-2.path c.in-Some.name.now _ (sym c.in-Some.ensures.name) c.in_ok-path-2.ensures.path in
    falls_short (2 ^ 64) (length c.loop-name.path.known) (length c.in_ok-path-2.path.known)
    (one_known c.loop-name.path c.in_ok-path-2.path c.in-Some.name.now _ after) c.in-Some.ensures.few

pub loop-name-preserved : goal.loop-name-preserved
loop-name-preserved g c =
    let finds = IsFoundAs g.R.FileReader.facts (map (λ folder. string_bytes folder) c.args.folders.now) in
    let next = sym c.in-Some.ensures.name in
    let after = behind_name c.loop-name.path c.in_ok-path-2.path c.in-Some.name.now _ next c.in_ok-path-2.ensures.path in
    one_lookup_more finds _ c.loop-name.path c.in_ok-path-2.path c.loop-name.files.items c.behind.new.files.items c.in-Some.name.now (pair_of c.in_ok-found.found)
    c.loop-name.invariant next (finds_pair (finds c.in-Some.name.now) c.in_ok-found.found c.in_ok-found.ensures) after c.in_ok-path-2.ensures.files
