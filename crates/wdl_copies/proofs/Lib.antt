mod RenamedLaws
mod TypeLaws
