pub mod GroupLaunchCall
