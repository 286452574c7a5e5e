-- The lines of a class (Jasmin User Guide, "Jasmin Syntax").
use Rattle.std.specs.Prelude.{ℕ, List, ◌∷◌, ◌++◌, Option, Some}
use Rattle.jm_program.specs.Flags.{is_interface}
use Rattle.jm_program.specs.declared.class.ClassParts.{ClassParts}
use Rattle.jm_program.specs.declared.class.Field.{Field}
use Rattle.jm_program.specs.declared.class.Method.{Method}
use Rattle.jm_program.specs.declared.class.Version.{Version}
use Rattle.jm_jasmin.specs.Header.{version_or_default}
use Rattle.jm_jasmin.specs.declared.header.Declared.{Declared}
use Rattle.jm_jasmin.specs.WordForms.{Line}
use Rattle.jm_jasmin.specs.Each.{EachOf, AtMostOne, OneLine}
use Rattle.jm_jasmin.specs.HeaderForms.{VersionLine, SourceLine, ClassLine, SuperLine, ImplementsLine}
use Rattle.jm_jasmin.specs.FieldForms.{FieldLine}
use Rattle.jm_jasmin.specs.MethodForms.{MethodLines}

-- .bytecode and .source where they are given, .class or .interface, .super, each .implements, each field and each method; the version is
-- 49.0 where none is given
pub data ClassLines : List Line → ClassParts → Type 0 where
  class_lines : (versions sources : List Line) (declared super : Line) (implements fields methods : List Line)
      (version : Option Version) (source : Option (List ℕ)) (d : Declared) (superclass : List ℕ) (interfaces : List (List ℕ)) (fs : List Field)
      (ms : List Method)
      → AtMostOne VersionLine versions version → AtMostOne SourceLine sources source → ClassLine declared d → SuperLine super superclass
      → EachOf (OneLine ImplementsLine) implements interfaces → EachOf (OneLine FieldLine) fields fs → EachOf (MethodLines (is_interface d.flags)) methods ms
      → ClassLines (versions ++ (sources ++ declared ∷ super ∷ (implements ++ (fields ++ methods)))) (record {
        version = version_or_default version;
        flags = d.flags;
        name = d.name;
        superclass = Some superclass;
        interfaces = interfaces;
        fields = fs;
        methods = ms;
        source_file = source;
      })
